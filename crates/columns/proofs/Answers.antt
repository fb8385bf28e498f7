-- What the call answers: by whether there is a weighing, and whether a column is too short for the equipment. Assumes nothing.
use Rattle.std.specs.Prelude.{◌≡◌, true, false, not, ◌||◌, List, ℕ, ltb, ◌<◌, ◌≤◌, ℤ, length, Result, Err}
use Rattle.std.proofs.Common.{sym, ◌⊎◌, inl, inr, lt-ltb, le-ltb}
use Rattle.std.proofs.Math.Bool.{or-true}
use Rattle.std.proofs.lemmas.Bool.{not-true, not-false}
use Rattle.paper.specs.declared.Entry.{Entry}
use Rattle.paper.specs.declared.Equipment.{Equipment}
use Rattle.paper.specs.declared.Refusal.{Refusal}
use Rattle.paper.specs.declared.Refusal.TheVariants as refusal
use Rattle.paper.specs.Numbers.{refusal_of}
use Rattle.paper.specs.Record.{balance_of, is_none}
use Rattle.paper.specs.Equipment.{fitted, equipment_of}
use Rattle.paper.specs.Refusals.{first_number, equipment_too_long, equipment_number}
use Rattle.paper.specs.Answers.{equipment_given, equipment_answer}

abbrev pub Answer : Type 0
Answer = Result ℕ Refusal × List ℤ × List ℤ × List ℤ

-- one of three lengths is below n, or none is
one_below : (i j k n : ℕ) → (i < n) ⊎ ((j < n) ⊎ (k < n)) → (ltb i n || ltb j n || ltb k n) ≡ true
one_below i j k n (inl h) = rw (lt-ltb i n h)
one_below i j k n (inr (inl h)) = rw (lt-ltb j n h, or-true (ltb i n))
one_below i j k n (inr (inr h)) = rw (lt-ltb k n h) (or-true (ltb i n || ltb j n))

none_below : (i j k n : ℕ) → n ≤ i → n ≤ j → n ≤ k → (ltb i n || ltb j n || ltb k n) ≡ false
none_below i j k n f g h = rw (le-ltb i n f, le-ltb j n g, le-ltb k n h)

module _ (es : List Entry) (items : List Equipment) (k : items ≡ equipment_of (fitted es)) (arms weights nonlifting : List ℤ) where
  pub unweighed : false ≡ not (is_none (balance_of es)) → ◌≡◌ {A = Answer} (Err refusal.NoWeighing, arms, weights, nonlifting) (equipment_answer es arms weights nonlifting)
  unfolding equipment_answer equipment_number first_number refusal_of
  unweighed w = rw (not-false (is_none (balance_of es)) (sym w))

  pub too_short : true ≡ not (is_none (balance_of es)) → (length arms < length items) ⊎ ((length weights < length items) ⊎ (length nonlifting < length items))
      → ◌≡◌ {A = Answer} (Err refusal.ShortBuffer, arms, weights, nonlifting) (equipment_answer es arms weights nonlifting)
  unfolding equipment_answer equipment_number equipment_too_long first_number refusal_of
  too_short w h =
      rw (← k, not-true (is_none (balance_of es)) (sym w), one_below (length arms) (length weights) (length nonlifting) (length items) h)

  pub long_enough : true ≡ not (is_none (balance_of es)) → length items ≤ length arms → length items ≤ length weights → length items ≤ length nonlifting
      → equipment_given items arms weights nonlifting ≡ equipment_answer es arms weights nonlifting
  unfolding equipment_answer equipment_number equipment_too_long first_number
  long_enough w f g h =
      rw (← k, not-true (is_none (balance_of es)) (sym w), none_below (length arms) (length weights) (length nonlifting) (length items) f g h)
