-- Entries, both ways: one by the table, and a list of them by recursion. Assumes nothing.
use Rattle.std.specs.Prelude.{◌≡◌, refl, true, cond, List, [], ◌∷◌, ◌++◌, map, ℕ, zero, suc, ◌*◌, ◌≤◌, leb, ltb, ℤ, length, drop}
use Rattle.std.proofs.Common.{ap, sym, ◌∙◌, arith, length-append, take-append-drop, lt-ltb, leb-true}
use Rattle.std.proofs.Math.Option
use Rattle.std.proofs.Math.Option.{none, some, bind, some-injective, none-ne-some, bind-eq-some_iff, map-eq-some_iff}
use Rattle.std.proofs.Math.Pow.{are_bytes}
use Rattle.laws.specs.Options.{map-cond, cond_passed, cond-found}
use Rattle.laws.specs.Tests.{both, right}
use Rattle.paper.specs.declared.Entry.{Entry}
use Rattle.paper.specs.File.{Field, layout_of, kind_of, values_of, entry_of, entry_bytes, fields_bytes, take_fields, take_entry, take_entries}
use Rattle.paper.specs.Rows.{joined}
use Rattle.format.specs.Numbers.{bytes-append}
use Rattle.format.specs.Fields.{widths, total, numbers_from, values_by, take_fields_lem, widths-length, numbers-length}
use Rattle.format.specs.Fitting.{AllFit}
use Rattle.format.specs.Rows.{fields_of, entry_back, entry_layout, values_length, kind_byte, layout_short, kind_back, values_back}
use Rattle.format.specs.Values.{bytes-behind, fields_read, fields_written, fields_are_bytes, fields_length}

-- ---- what is written

pub entry_are_bytes : (e : Entry) → are_bytes (entry_bytes e) ≡ true
unfolding entry_bytes
entry_are_bytes e = both (ltb (kind_of e) 256) (are_bytes (fields_bytes (fields_of e) (values_of e))) (lt-ltb (kind_of e) 256 (kind_byte e)) (fields_are_bytes (fields_of e) (values_of e))

-- 61 bytes at most
pub entry_length : (e : Entry) → length (entry_bytes e) ≤ 61
unfolding entry_bytes
entry_length e = omega (arith, fields_length (fields_of e) (values_of e) (values_length e), layout_short e)

pub entries_are_bytes : (es : List Entry) → are_bytes (joined (map entry_bytes es)) ≡ true
unfolding joined
entries_are_bytes [] = refl
entries_are_bytes (e ∷ es) = bytes-append (entry_bytes e) (joined (map entry_bytes es)) (entry_are_bytes e) (entries_are_bytes es)

pub entries_length : (es : List Entry) → length (joined (map entry_bytes es)) ≤ 61 * length es
unfolding joined
entries_length [] = omega arith
entries_length (e ∷ es) = omega (arith, length-append (entry_bytes e) (joined (map entry_bytes es)), entry_length e, entries_length es)

-- ---- read back

pub entry_read : (e : Entry) → AllFit (fields_of e) (values_of e) → (xs : List ℕ) → take_entry (entry_bytes e ++ xs) ≡ some (e, xs)
unfolding take_entry entry_bytes bind
entry_read e h xs = rw (entry_layout e, fields_read (fields_of e) (values_of e) h xs, entry_back e)

-- the values of every entry fit
infixr 60 ◌then◌
pub data EachFits : List Entry → Type 0 where
  none_left : EachFits []
  ◌then◌ : {e : Entry} {es : List Entry} → AllFit (fields_of e) (values_of e) → EachFits es → EachFits (e ∷ es)

pub entries_read : (es : List Entry) → EachFits es → take_entries (length es) (joined (map entry_bytes es)) ≡ some es
unfolding take_entries joined bind
entries_read [] none_left = refl
entries_read (e ∷ es) (h then t) = rw (entry_read e h (joined (map entry_bytes es)), entries_read es t)

-- ---- written back

-- the entry of a kind with the values read
abbrev entry_at : ℕ → List ℤ × List ℕ → Entry × List ℕ
entry_at k z = (entry_of k z.0, z.1)

-- of a kind of the table
by_kind : (k : ℕ) (fs : List Field) (xs : List ℕ) (e : Entry) (ys : List ℕ) → are_bytes xs ≡ true → layout_of k ≡ some fs → Option.map (entry_at k) (take_fields fs xs) ≡ some (e, ys) → k ∷ xs ≡ entry_bytes e ++ ys
unfolding entry_bytes
by_kind k fs xs e ys b l h =
    let n = total (widths fs) in
    let ns = numbers_from (widths fs) xs in
    let vs = values_by fs ns in
    let t = leb n (length xs) in
    let found : Entry × List ℕ = (entry_of k vs, drop n xs) in
    let g : cond t (some found) none ≡ some (e, ys) = sym (map-cond (entry_at k) t (vs, drop n xs)) ∙ ap (Option.map (entry_at k)) (sym (take_fields_lem fs xs)) ∙ h in
    let room = leb-true n (length xs) (cond_passed t (some found) (e, ys) g) in
    let p : found ≡ (e, ys) = cond-found t found (e, ys) g in
    let back : entry_bytes (entry_of k vs) ++ drop n xs ≡ k ∷ xs = rw (kind_back k fs l vs, values_back k fs l ns (sym (numbers-length (widths fs) xs ∙ widths-length fs)), l, fields_written fs xs b room, take-append-drop n xs) in
    sym back ∙ ap (λ (z : Entry × List ℕ). entry_bytes z.0 ++ z.1) p

pub entry_written : (xs : List ℕ) (e : Entry) (ys : List ℕ) → are_bytes xs ≡ true → take_entry xs ≡ some (e, ys) → xs ≡ entry_bytes e ++ ys
unfolding take_entry
entry_written [] e ys b h = cc
entry_written (k ∷ xs) e ys b h =
    let found = (bind-eq-some_iff (layout_of k) (λ fs. Option.map (entry_at k) (take_fields fs xs))).0 h in
    by_kind k found.0 xs e ys (right (ltb k 256) (are_bytes xs) b) found.1 found.2

pub entries_written : (n : ℕ) (xs : List ℕ) (es : List Entry) → are_bytes xs ≡ true → take_entries n xs ≡ some es → (xs ≡ joined (map entry_bytes es)) × (n ≡ length es)
unfolding take_entries joined
entries_written zero [] es b h = rw (← some-injective [] es h) (refl, refl)
entries_written zero (x ∷ xs) es b h = absurd (none-ne-some es h)
entries_written (suc n) xs es b h =
    let one = (bind-eq-some_iff (take_entry xs) (λ y. Option.map (λ fs. y.0 ∷ fs) (take_entries n y.1))).0 h in
    let e = one.0.0 in
    let ys = one.0.1 in
    let more = (map-eq-some_iff (λ fs. e ∷ fs) (take_entries n ys)).0 one.2 in
    let first : xs ≡ entry_bytes e ++ ys = entry_written xs e ys b one.1 in
    let rest = entries_written n ys more.0 (bytes-behind (entry_bytes e) ys (rw first at b)) more.1 in
    rw (← more.2) (first ∙ ap (λ zs. entry_bytes e ++ zs) rest.0, ap suc rest.1)
