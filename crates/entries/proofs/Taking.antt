-- An entry taken off the front of some bytes: the first is the kind, and its row says how many must follow. Assumes nothing.
use Rattle.std.proofs.Common.{◌≡◌, ℕ, ◌+◌, ◌-◌, ◌≤◌, ◌<◌, List, [], ◌∷◌, length, get_or, take, drop, refl, sym, ap, ◌∙◌, subst, arith, le-leb, drop-cons}
use Rattle.std.specs.Prelude.{Option as RustOption, Result, Ok, Err, Some, None}
use Rattle.std.specs.Result.{result_ok}
use Rattle.std.specs.Borrow.{Bor}
use Rattle.std.proofs.lemmas.List.{take_rest, take-take, drop-take}
use mathlib.Core.Option.{Option, none, some, bind}
use borrow.Author.Tests.{lt-leb, ne_eqb}
use Rattle.paper.specs.declared.Entry.{Entry}
use Rattle.paper.specs.declared.Kind.{Kind}
use Rattle.paper.specs.declared.Kind.TheVariants as kind
use Rattle.paper.specs.declared.Unknown.{Unknown}
use Rattle.paper.specs.Numbers.{code_of, Decodes}
use Rattle.paper.specs.File.{layout_of, entry_of, take_entry}
use Rattle.format.specs.Fields.{widths, total, numbers_from, take_fields_lem}
use Rattle.format.specs.Rows.{fields_at}
use Rattle.kinds.specs.Values.{values_from}
use Rattle.entries.specs.Taking.{Takes, take_kind}

-- ---- by the kind: one of the table, or none

kind_row : (k : Kind) → layout_of (code_of k) ≡ some (fields_at (code_of k))
unfolding layout_of
kind_row kind.Weighing = refl
kind_row kind.Sheet = refl
kind_row kind.Change = refl
kind_row kind.Paired = refl
kind_row kind.Seat = refl

kind_taken : (k : Kind) (xs : List ℕ) → take_kind (code_of k) xs ≡ take_entry (code_of k ∷ xs)
unfolding take_kind take_entry bind
kind_taken k xs = rw (kind_row k)

no_row : (k : ℕ) → (k ≡ 1 → ⊥) → (k ≡ 2 → ⊥) → (k ≡ 3 → ⊥) → (k ≡ 4 → ⊥) → (k ≡ 5 → ⊥) → layout_of k ≡ none
unfolding layout_of
no_row k a b c d e = rw (ne_eqb k 1 a, ne_eqb k 2 b, ne_eqb k 3 c, ne_eqb k 4 d, ne_eqb k 5 e)

no_kind : (n : ℕ) (xs : List ℕ) → ((k : Kind) → code_of k ≡ n → ⊥) → take_entry (n ∷ xs) ≡ none
unfolding take_entry bind
no_kind n xs f =
    let none_is = λ (k : Kind) (e : n ≡ code_of k). f k (sym e) in
    rw (no_row n (none_is kind.Weighing) (none_is kind.Sheet) (none_is kind.Change) (none_is kind.Paired) (none_is kind.Seat))

-- as the code has it: the first byte, and the others
pub no_byte : (s : List ℕ) → length s < 1 → take_entry s ≡ none
unfolding take_entry
no_byte [] h = refl
no_byte (x ∷ xs) h = absurd (omega arith)

module _ (s : List ℕ) (h : 1 ≤ length s) (r : Result Kind Unknown) (d : Decodes (get_or s 0 0) r) where
  parted : get_or s 0 0 ∷ take (length s - 1) (drop 1 s) ≡ s
  parted = ap (λ (xs : List ℕ). get_or s 0 0 ∷ xs) (take_rest s 1) ∙ sym (drop-cons s 0 0 h)

  pub no_kind_got : None ≡ result_ok r → take_entry s ≡ none
  no_kind_got e = by r d e
    where
      by : (q : Result Kind Unknown) → Decodes (get_or s 0 0) q → None ≡ result_ok q → take_entry s ≡ none
      by (Ok k) f g = cc
      by (Err u) f g = rw parted at (no_kind (get_or s 0 0) (take (length s - 1) (drop 1 s)) f.1)

  pub kind_got : (k : Kind) → Some k ≡ result_ok r → (b : Bor (List ℕ)) (x : RustOption Entry) (c : Bor (List ℕ)) → Takes (take_kind (code_of k) (take (length s - 1) (drop 1 s))) b x c → Takes (take_entry s) b x c
  kind_got k e b x c t = by r d e
    where
      by : (q : Result Kind Unknown) → Decodes (get_or s 0 0) q → Some k ≡ result_ok q → Takes (take_entry s) b x c
      by (Ok j) f g =
          let same : j ≡ k = cc in
          let code : code_of k ≡ get_or s 0 0 = ap code_of (sym same) ∙ f in
          let whole : code_of k ∷ take (length s - 1) (drop 1 s) ≡ s = ap (λ (n : ℕ). n ∷ take (length s - 1) (drop 1 s)) code ∙ parted in
          subst (λ (o : Option (Entry × List ℕ)). Takes o b x c) (kind_taken k (take (length s - 1) (drop 1 s)) ∙ ap take_entry whole) t
      by (Err u) f g = cc

-- ---- the fields of a kind that takes n bytes behind its own

-- what the widths spell stands in so many bytes
first_bytes : (ws xs : List ℕ) → numbers_from ws (take (total ws) xs) ≡ numbers_from ws xs
unfolding numbers_from total
first_bytes [] xs = refl
first_bytes (w ∷ ws) xs = rw (take-take w (w + total ws) xs (omega arith), drop-take w (total ws) xs, first_bytes ws (drop w xs))

module _ (k n : ℕ) (xs : List ℕ) (e : n ≡ total (widths (fields_at k))) where
  pub too_few : length xs < n → take_kind k xs ≡ none
  unfolding take_kind
  too_few h = rw (take_fields_lem (fields_at k) xs, ← e, lt-leb n (length xs) h)

  pub enough : n ≤ length xs → (x : Entry) (ys zs : List ℕ) → ys ≡ take n xs → x ≡ entry_of k (values_from k ys) → zs ≡ drop n xs → take_kind k xs ≡ some (x, zs)
  unfolding take_kind values_from
  enough h x ys zs d f g =
      rw (take_fields_lem (fields_at k) xs, ← e, le-leb n (length xs) h, f, g, d, e, first_bytes (widths (fields_at k)) xs)
