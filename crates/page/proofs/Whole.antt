-- The lines and the blank rows from none to all: the placard's text, and its count. Assumes nothing.
use mathlib.Core.Path.{◌≡◌, refl, sym, ap, subst, ◌∙◌}
use mathlib.Core.List.{List, ◌++◌}
use Prim.Native.Nat.{ℕ, ◌+◌, ◌-◌, ◌*◌, ◌≤◌}
use native.Mathlib.Nat.{add-mul, one-mul}
use native.Mathlib.Omega.{arith}
use lib.ListN.{length, take, drop}
use Rattle.laws.specs.Written.{written, written_none, written-part, length-written}
use Rattle.paper.specs.declared.Sheet.{Sheet}
use Rattle.paper.specs.declared.Seat.{Seat}
use Rattle.paper.specs.Record.{Balance}
use Rattle.paper.specs.Rows.{below, joined, row_count}
use Rattle.paper.specs.Placard.{text, blank_of, blank_count}
use Rattle.group.specs.Numbered.{waters, lines_to, lines_from, blanks_to}
use Rattle.group.proofs.Rows.{text_by_index, length-lines_from, blank_by_index}
use Rattle.group.proofs.Buffer.{group_put}

module _ (s : Sheet) (f : Seat) (b : Balance) where
  -- none yet
  pub none_put : (xs : List ℕ) → xs ≡ written xs 0 (lines_to s f b 0)
  unfolding below joined
  none_put xs = sym (written_none xs 0)

  pub none_blank : 0 ≡ blanks_to s f b 0
  unfolding below blank_of
  none_blank = refl

  -- `one` of the n rows beside the j-th rear load are blank, and their lines stand in a part of the buffer
  abbrev pub Group : ℕ → ℕ → List ℕ → List ℕ → ℕ → Type 0
  Group j one lent part n =
      (one ≤ n) × (one + blanks_to s f b (j * n) ≡ blanks_to s f b (j * n + n)) × (part ≡ written lent 0 (lines_from s f b (j * n) n))

  -- those beside one rear load more
  pub group_more : (j n none one : ℕ) (lent out part : List ℕ) → n ≡ waters s → 36 * (j * n) + 36 * n ≤ length lent → length out ≡ length lent → none ≤ j * n → none ≡ blanks_to s f b (j * n) → out ≡ written lent 0 (lines_to s f b (j * n))
      → Group j one (take (length out - 36 * (j * n)) (drop (36 * (j * n)) out)) part (waters s)
      → let last = take (36 * (j * n)) out ++ (part ++ drop (length out - 36 * (j * n)) (drop (36 * (j * n)) out)) in
      (none + one ≤ (j + 1) * n) × (length last ≡ length lent) × (none + one ≡ blanks_to s f b ((j + 1) * n)) × (last ≡ written lent 0 (lines_to s f b ((j + 1) * n)))
  group_more j n none one lent out part e room long few counted put told =
      let more = subst (Group j one (take (length out - 36 * (j * n)) (drop (36 * (j * n)) out)) part) (sym e) told in
      let next : (j + 1) * n ≡ j * n + n = omega (arith, add-mul j 1 n, one-mul n) in
      let whole = written-part out part (lines_from s f b (j * n) n) (36 * (j * n)) more.2 in
      rw next (
        omega (arith, few, more.0),
        ap length whole ∙ length-written out (36 * (j * n)) (lines_from s f b (j * n) n) (omega (arith, length-lines_from s f b (j * n) n, room, long)) ∙ long,
        omega (arith, counted, more.1),
        group_put s f b (j * n) n lent out _ (omega (arith, room)) put whole,
      )

  -- all of them
  pub all-put : (xs out : List ℕ) (i : ℕ) → i ≡ row_count s → out ≡ written xs 0 (lines_to s f b i) → out ≡ written xs 0 (text s f b)
  all-put xs out i e o = rw (o, e, text_by_index s f b)

  pub all_blank : (n i : ℕ) → i ≡ row_count s → n ≡ blanks_to s f b i → n ≡ blank_count s f b
  all_blank n i e o = rw (o, e, blank_by_index s f b)
