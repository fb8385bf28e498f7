-- An entry kept or not, by the first of its bytes, which is the number of its kind. Assumes nothing.
use Rattle.std.proofs.Common.{◌≡◌, ℕ, ◌≤◌, ◌<◌, ℤ, List, [], ◌∷◌, length, get_or, refl, sym, ap, ◌∙◌, arith, le-leb}
use Rattle.std.proofs.lemmas.Bool.{lt-leb}
use Rattle.std.specs.Prelude.{Option as RustOption, Some, None}
use Rattle.std.specs.Borrow.{Bor}
use Rattle.std.proofs.Math.Option
use Rattle.std.proofs.Math.Option.{none, some, bind-eq-some_iff, map-eq-some_iff}
use Rattle.paper.specs.declared.Entry.{Entry}
use Rattle.paper.specs.File.{Field, layout_of, kind_of, entry_of, take_fields, take_entry}
use Rattle.format.specs.Rows.{kind_back}
use Rattle.entries.specs.Taking.{Takes}
use Rattle.reader.specs.Reading.{up_to, take_to}

kind_there : (k : ℕ) (xs : List ℕ) (e : Entry) (ys : List ℕ) → take_entry (k ∷ xs) ≡ some (e, ys) → kind_of e ≡ k
unfolding take_entry
kind_there k xs e ys h =
    let with_kind : List ℤ × List ℕ → Entry × List ℕ = λ z. (entry_of k z.0, z.1) in
    let row = (bind-eq-some_iff (layout_of k) (λ (fs : List Field). Option.map with_kind (take_fields fs xs))).0 h in
    let fields = (map-eq-some_iff with_kind (take_fields row.0 xs)).0 row.2 in
    ap (λ (p : Entry × List ℕ). kind_of p.0) (sym fields.2) ∙ kind_back k row.0 row.1 fields.0.0

-- no byte, one of a later kind, and what is taken otherwise
module _ (k : ℕ) where
  pub no_byte_to : (xs : List ℕ) → length xs < 1 → take_to k xs ≡ none
  unfolding take_to take_entry
  no_byte_to [] h = refl
  no_byte_to (x ∷ xs) h = absurd (omega arith)

  pub later_to : (xs : List ℕ) → 1 ≤ length xs → k < get_or xs 0 0 → take_to k xs ≡ none
  unfolding take_to
  later_to [] h l = absurd (omega arith)
  later_to (x ∷ xs) h l = by (take_entry (x ∷ xs)) refl
    where
      by : (o : Option.Option (Entry × List ℕ)) → take_entry (x ∷ xs) ≡ o → up_to k o ≡ none
      by none e = refl
      by (some p) e = rw (kind_there x xs p.0 p.1 e, lt-leb x k l)

  pub taken_to : (xs : List ℕ) (b : Bor (List ℕ)) (x : RustOption Entry) (c : Bor (List ℕ)) → 1 ≤ length xs → get_or xs 0 0 ≤ k → Takes (take_entry xs) b x c → Takes (take_to k xs) b x c
  unfolding take_to
  taken_to [] b x c h l t = absurd (omega arith)
  taken_to (n ∷ xs) b None c h l t = (rw t.0, t.1)
  taken_to (n ∷ xs) b (Some e) c h l t = rw (t, kind_there n xs e c.now t, le-leb n k l)
