-- The entry at a place: each kind is one up to the last, so it is what the definition takes there. Assumes nothing.
use Rattle.std.proofs.Common.{◌≡◌, refl, sym, ap, ◌∙◌, true, ℕ, ◌-◌, ◌≤◌, List, length, drop, length-append, arith}
use Rattle.std.proofs.lemmas.List.{length-drop}
use Rattle.std.specs.Prelude.{leb, Some, None}
use Rattle.std.proofs.Math.Option.{Option, none, some}
use Rattle.std.proofs.Math.Pow.{are_bytes}
use Rattle.paper.specs.declared.Entry.{Entry}
use Rattle.paper.specs.declared.Entry.TheVariants as entry
use Rattle.paper.specs.File.{kind_of, entry_bytes, take_entry}
use Rattle.format.specs.Numbers.{bytes_drop}
use Rattle.format.specs.Entries.{entry_written}
use Rattle.reader.specs.Reading.{up_to, take_to, walk_at}

up_to_last : (e : Entry) → leb (kind_of e) 5 ≡ true
up_to_last (entry.Weighing w) = refl
up_to_last (entry.Sheet s) = refl
up_to_last (entry.Change x) = refl
up_to_last (entry.Paired x) = refl
up_to_last (entry.Seat f) = refl

every : (xs : List ℕ) → take_to 5 xs ≡ take_entry xs
unfolding take_to
every xs = by (take_entry xs)
  where
    by : (o : Option (Entry × List ℕ)) → up_to 5 o ≡ o
    by none = refl
    by (some p) = rw (up_to_last p.0)

-- xs are what stands from a place on
module _ (s : List ℕ) (at : ℕ) (xs : List ℕ) (x : xs ≡ drop at s) where
  taken : (o : Option (Entry × List ℕ)) → take_to 5 xs ≡ o → take_entry (drop at s) ≡ o
  taken o t = ap take_entry (sym x) ∙ sym (every xs) ∙ t

  pub none_at : take_to 5 xs ≡ none → None ≡ walk_at s at
  unfolding walk_at
  none_at t = rw (taken none t)

  module _ (e : Entry) (ys : List ℕ) (t : take_to 5 xs ≡ some (e, ys)) where
    pub one_at : (n : ℕ) → n ≡ length ys → Some (e, length s - n) ≡ walk_at s at
    unfolding walk_at
    one_at n h = rw (taken (some (e, ys)) t, h)

    pub left_at : are_bytes s ≡ true → length ys ≤ length s
    left_at b =
        let whole = entry_written (drop at s) e ys (bytes_drop at s b) (taken (some (e, ys)) t) in
        omega (arith, ap length whole, length-append (entry_bytes e) ys, length-drop at s)
