-- The values of a kind's fields as they stand in some bytes.
use Rattle.std.specs.Prelude.{◌≡◌, refl, cond, List, [], ◌∷◌, ℕ, suc, ◌+◌, ◌*◌, ℤ, pos, nat_abs, length, take, drop}
use Rattle.paper.specs.declared.Station.{Station}
use Rattle.paper.specs.File.{Field, word, signed_word, number_of, layout_of, signed_at, entry_of}
use Rattle.format.specs.Fields.{widths, total, numbers_from, values_by}
use Rattle.format.specs.Rows.{fields_at}

-- those that some bytes begin with
unfoldable pub values_from : ℕ → List ℕ → List ℤ
values_from k xs = values_by (fields_at k) (numbers_from (widths (fields_at k)) xs)

-- the values of these fields, as some bytes begin with them
abbrev pub values_in : List Field → List ℕ → List ℤ
values_in fs xs = values_by fs (numbers_from (widths fs) xs)

-- the number that w bytes spell is taken off the front of some bytes, and those behind it are left
pub record TakenNumber (w : ℕ) (xs : List ℕ) (n : ℕ) (ys : List ℕ) : Type 0 where
  pub value : n ≡ number_of (take w xs)
  pub rest : ys ≡ drop w xs
  pub shorter : length ys + w ≡ length xs

-- a value as a field shows it: without its sign where the field has none
abbrev pub shown : Field → ℤ → ℤ
shown f v = cond f.signed v (pos (nat_abs v))

-- the values from a place on, as these fields show them
abbrev pub given_from : List ℤ → ℕ → List Field → List ℤ
given_from vs i [] = []
given_from vs i (f ∷ fs) = shown f (signed_at vs i) ∷ given_from vs (suc i) fs

abbrev pub given_values : List ℤ → List Field → List ℤ
given_values vs fs = given_from vs 0 fs

-- how much some fields take
abbrev pub sizes : (Field → ℕ) → List Field → ℕ
sizes size [] = 0
sizes size (f ∷ fs) = size f + sizes size fs

-- ---- what a source gives, by how much is left in it, how much a field takes, and the values that it gives for some fields

module _ {A : Type 0} (left : A → ℕ) (size : Field → ℕ) (given : A → List Field → List ℤ) where
  -- the value of a field is read, and the source goes on behind it
  pub record Gives (f : Field) (s : A) (v : ℤ) (t : A) : Type 0 where
    pub values : (fs : List Field) → given s (f ∷ fs) ≡ v ∷ given t fs
    pub shorter : left t + size f ≡ left s

  -- the three of a station
  pub record GivesStation (s : A) (r : Station) (t : A) : Type 0 where
    pub values : (fs : List Field) → given s (signed_word ∷ word ∷ word ∷ fs) ≡ r.arm ∷ pos r.most ∷ pos r.step ∷ given t fs
    pub shorter : left t + (size signed_word + 2 * size word) ≡ left s

-- ---- how many bytes the fields of each kind take

pub total_weighing : 21 ≡ total (widths (fields_at 1))
unfolding layout_of widths total
total_weighing = refl

pub total_sheet : 60 ≡ total (widths (fields_at 2))
unfolding layout_of widths total
total_sheet = refl

pub total_change : 9 ≡ total (widths (fields_at 3))
unfolding layout_of widths total
total_change = refl

pub total_paired : 29 ≡ total (widths (fields_at 4))
unfolding layout_of widths total
total_paired = refl

pub total_seat : 8 ≡ total (widths (fields_at 5))
unfolding layout_of widths total
total_seat = refl

-- ---- how many fields each kind has

pub count_weighing : 6 ≡ length (fields_at 1)
unfolding layout_of
count_weighing = refl

pub count_sheet : 15 ≡ length (fields_at 2)
unfolding layout_of
count_sheet = refl

pub count_change : 3 ≡ length (fields_at 3)
unfolding layout_of
count_change = refl

pub count_paired : 8 ≡ length (fields_at 4)
unfolding layout_of
count_paired = refl

pub count_seat : 2 ≡ length (fields_at 5)
unfolding layout_of
count_seat = refl

-- ---- the entry of some values is that of what its fields show of them

pub shown_weighing : (v : List ℤ) → entry_of 1 (given_values v (fields_at 1)) ≡ entry_of 1 v
unfolding layout_of entry_of
shown_weighing v = refl

pub shown_sheet : (v : List ℤ) → entry_of 2 (given_values v (fields_at 2)) ≡ entry_of 2 v
unfolding layout_of entry_of
shown_sheet v = refl

pub shown_change : (v : List ℤ) → entry_of 3 (given_values v (fields_at 3)) ≡ entry_of 3 v
unfolding layout_of entry_of
shown_change v = refl

pub shown_paired : (v : List ℤ) → entry_of 4 (given_values v (fields_at 4)) ≡ entry_of 4 v
unfolding layout_of entry_of
shown_paired v = refl

pub shown_seat : (v : List ℤ) → entry_of 5 (given_values v (fields_at 5)) ≡ entry_of 5 v
unfolding layout_of entry_of
shown_seat v = refl
