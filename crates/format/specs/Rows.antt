-- What holds of each row of the table of kinds: each by computing it, one line for each kind. Assumes nothing.
use Rattle.std.specs.Prelude.{◌≡◌, refl, Bool, true, false, cond, List, [], ◌∷◌, ℕ, ◌≤◌, ◌<◌, eqb, ℤ, length, get_or}
use Rattle.std.proofs.Common.{sym, subst, arith, eqb-true}
use Rattle.std.proofs.Math.Option.{Option, some, some-injective, none-ne-some}
use Rattle.laws.specs.Lists.{tabulate, by_elements}
use Rattle.paper.specs.declared.Entry.{Entry}
use Rattle.paper.specs.declared.Entry.TheVariants as entry
use Rattle.paper.specs.File.{Field, field_value, layout_of, kind_of, values_of, entry_of, the_fields, version, last_kind, kinds_to}
use Rattle.format.specs.Fields.{values_by, widths, total}

-- an entry's fields
abbrev pub fields_of : Entry → List Field
fields_of e = the_fields (layout_of (kind_of e))

-- ---- of an entry

pub entry_back : (e : Entry) → entry_of (kind_of e) (values_of e) ≡ e
unfolding entry_of
entry_back (entry.Weighing w) = refl
entry_back (entry.Sheet s) = refl
entry_back (entry.Change x) = refl
entry_back (entry.Paired x) = refl
entry_back (entry.Seat f) = refl

pub entry_layout : (e : Entry) → layout_of (kind_of e) ≡ some (fields_of e)
unfolding layout_of
entry_layout (entry.Weighing w) = refl
entry_layout (entry.Sheet s) = refl
entry_layout (entry.Change x) = refl
entry_layout (entry.Paired x) = refl
entry_layout (entry.Seat f) = refl

pub values_length : (e : Entry) → length (values_of e) ≡ length (fields_of e)
unfolding layout_of
values_length (entry.Weighing w) = refl
values_length (entry.Sheet s) = refl
values_length (entry.Change x) = refl
values_length (entry.Paired x) = refl
values_length (entry.Seat f) = refl

pub kind_byte : (e : Entry) → kind_of e < 256
kind_byte (entry.Weighing w) = omega arith
kind_byte (entry.Sheet s) = omega arith
kind_byte (entry.Change x) = omega arith
kind_byte (entry.Paired x) = omega arith
kind_byte (entry.Seat f) = omega arith

-- version 2 has every kind
pub kinds_all : (es : List Entry) → kinds_to (last_kind version) es ≡ true
unfolding kinds_to last_kind
kinds_all [] = refl
kinds_all (entry.Weighing w ∷ es) = kinds_all es
kinds_all (entry.Sheet s ∷ es) = kinds_all es
kinds_all (entry.Change x ∷ es) = kinds_all es
kinds_all (entry.Paired x ∷ es) = kinds_all es
kinds_all (entry.Seat f ∷ es) = kinds_all es

-- how many bytes an entry's fields take, at most
pub layout_short : (e : Entry) → total (widths (fields_of e)) ≤ 60
unfolding layout_of widths total
layout_short (entry.Weighing w) = omega arith
layout_short (entry.Sheet s) = omega arith
layout_short (entry.Change x) = omega arith
layout_short (entry.Paired x) = omega arith
layout_short (entry.Seat f) = omega arith

-- ---- of a kind

-- the row of i: what holds of it holds of a kind that is i
row : (P : ℕ → List Field → Type 0) (t : Bool) (k i : ℕ) (fs gs : List Field) (o : Option (List Field)) → eqb k i ≡ t → P i fs → (o ≡ some gs → P k gs) → cond t (some fs) o ≡ some gs → P k gs
row P true k i fs gs o t p q e = rw (eqb-true k i t, ← some-injective fs gs e) p
row P false k i fs gs o t p q e = q e

-- the fields of a kind
abbrev pub fields_at : ℕ → List Field
fields_at k = the_fields (layout_of k)

-- what holds of each row holds of every kind that has one
pub rows : (P : ℕ → List Field → Type 0) → P 1 (fields_at 1) → P 2 (fields_at 2) → P 3 (fields_at 3) → P 4 (fields_at 4) → P 5 (fields_at 5) → (k : ℕ) (fs : List Field) → layout_of k ≡ some fs → P k fs
unfolding layout_of
rows P one two three four five k fs e =
    row P (eqb k 1) k 1 (fields_at 1) fs _ refl one
    (row P (eqb k 2) k 2 (fields_at 2) fs _ refl two
    (row P (eqb k 3) k 3 (fields_at 3) fs _ refl three
    (row P (eqb k 4) k 4 (fields_at 4) fs _ refl four
    (row P (eqb k 5) k 5 (fields_at 5) fs _ refl five (λ n. absurd (none-ne-some fs n)))))) e

pub kind_back : (k : ℕ) (fs : List Field) → layout_of k ≡ some fs → (vs : List ℤ) → kind_of (entry_of k vs) ≡ k
unfolding entry_of
kind_back = rows (λ k fs. (vs : List ℤ) → kind_of (entry_of k vs) ≡ k) (λ vs. refl) (λ vs. refl) (λ vs. refl) (λ vs. refl) (λ vs. refl)

-- the first n numbers of a list
abbrev firsts : ℕ → List ℕ → List ℕ
firsts n ns = tabulate n (λ (i : ℕ). get_or ns i 0)

values_shown : (k : ℕ) (fs : List Field) → layout_of k ≡ some fs → (ns : List ℕ) → values_of (entry_of k (values_by fs (firsts (length fs) ns))) ≡ values_by fs (firsts (length fs) ns)
unfolding layout_of entry_of field_value values_by
values_shown = rows (λ k fs. (ns : List ℕ) → values_of (entry_of k (values_by fs (firsts (length fs) ns))) ≡ values_by fs (firsts (length fs) ns)) (λ ns. refl) (λ ns. refl) (λ ns. refl) (λ ns. refl) (λ ns. refl)

pub values_back : (k : ℕ) (fs : List Field) → layout_of k ≡ some fs → (ns : List ℕ) → length fs ≡ length ns → values_of (entry_of k (values_by fs ns)) ≡ values_by fs ns
values_back k fs e ns h =
    subst (λ (ms : List ℕ). values_of (entry_of k (values_by fs ms)) ≡ values_by fs ms) (sym (by_elements (length fs) ns 0 (sym h))) (values_shown k fs e ns)
