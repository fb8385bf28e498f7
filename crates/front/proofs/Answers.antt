-- What the calls answer that change nothing, each definition computed on what the buffer holds. Assumes nothing.
use mathlib.Core.Path.{◌≡◌, refl, ap, ◌∙◌}
use mathlib.Core.List.{List}
use mathlib.Core.Option.{Option, none, some}
use Rattle.std.specs.Prelude.{Result, Ok, Err, Some, None}
use Rattle.std.specs.Borrow.{Bor}
use Rattle.std.specs.Prelude.{Option as RustOption}
use Rattle.std.specs.Option.{ok_or}
use Prim.Native.Nat.{ℕ}
use lib.IntN.{ℤ}
use Rattle.paper.specs.declared.Entry.{Entry}
use Rattle.paper.specs.declared.CentreOfGravity.{CentreOfGravity}
use Rattle.paper.specs.declared.Placard.{Placard}
use Rattle.paper.specs.declared.Refusal.{Refusal}
use Rattle.paper.specs.declared.Refusal.TheVariants as refusal
use Rattle.paper.specs.Numbers.{number_of}
use Rattle.paper.specs.Record.{is_none}
use Rattle.paper.specs.Refusals.{first_number, reading_number}
use Rattle.paper.specs.Answers.{centre_answer, equipment_answer, placard_answer}
use Rattle.stored.specs.declared.Contents.{Contents}
use Rattle.stored.specs.Found.{Finds}
use Rattle.equipped.specs.declared.Equipped.{Equipped}
use Rattle.equipped.specs.Equipped.{Equips}
use Rattle.front.specs.Front.{file_in, held_in, FrontOf, Holds, check_number, centre_for, equipment_for, placard_for}

-- the front, where there is one, and where there is none
pub front_there : (s : List ℕ) (o : RustOption (Bor (List ℕ))) (x : Bor (List ℕ)) → FrontOf s o → Ok x ≡ ok_or o refusal.NoFile → x.now ≡ file_in s
front_there s None x f e = cc
front_there s (Some y) x f e = let same : x ≡ y = cc in ap (λ (b : Bor (List ℕ)). b.now) same ∙ f

pub no_front : (s : List ℕ) (o : RustOption (Bor (List ℕ))) (r : Refusal) → FrontOf s o → Err r ≡ ok_or o refusal.NoFile → (held_in s ≡ none) × (r ≡ refusal.NoFile)
no_front s None r f e = (f, cc)
no_front s (Some y) r f e = cc

-- what is found, or 12 where it is nothing
pub told : (o : Option (List Entry)) (x : RustOption Contents) (r : Result Contents Refusal) → Finds o x → r ≡ ok_or x refusal.NoFile → Holds o r
told o None r f e = rw e (f, refl)
told o (Some c) r f e = rw e f

-- the equipment that is found, or 12 where it is nothing
pub no_equipment : (o : Option (List Entry)) (x : RustOption Equipped) (r : Refusal) → Equips o x → Err r ≡ ok_or x refusal.NoFile → (o ≡ none) × (r ≡ refusal.NoFile)
no_equipment o None r f e = (f, cc)
no_equipment o (Some c) r f e = cc

pub some_equipment : (o : Option (List Entry)) (x : RustOption Equipped) (c : Equipped) → Equips o x → Ok c ≡ ok_or x refusal.NoFile → Equips o (Some c)
some_equipment o None c f e = cc
some_equipment o (Some d) c f e = let same : c ≡ d = cc in rw same f

-- nothing is held, and the refusal is 12's
abbrev Bare : Option (List Entry) → Refusal → Type 0
Bare o r = (o ≡ none) × (r ≡ refusal.NoFile)

-- whether there is one

module _ (s : List ℕ) where
  pub no_file : (n : ℕ) (r : Refusal) → n ≡ number_of r → Bare (held_in s) r → n ≡ check_number s
  unfolding held_in check_number reading_number first_number is_none
  no_file n r e h = rw (e, h.1, h.0)

  pub a_file : (es : List Entry) → held_in s ≡ some es → 0 ≡ check_number s
  unfolding held_in check_number reading_number first_number is_none
  a_file es h = rw h

module _ (o : Option (List Entry)) where
  pub centre_twelve : (a : Result CentreOfGravity Refusal) (r : Refusal) → a ≡ Err r → Bare o r → a ≡ centre_for o
  unfolding centre_for
  centre_twelve a r e h = rw (e, h.1, h.0)

  pub centre_held : (es : List Entry) → o ≡ some es → centre_answer es ≡ centre_for o
  unfolding centre_for
  centre_held es e = rw e

  pub equipment_twelve : (arms weights nonlifting : List ℤ) (a : Result ℕ Refusal) (r : Refusal) → a ≡ Err r → Bare o r → (a, arms, weights, nonlifting) ≡ equipment_for o arms weights nonlifting
  unfolding equipment_for
  equipment_twelve arms weights nonlifting a r e h = rw (e, h.1, h.0)

  pub equipment_held : (arms weights nonlifting : List ℤ) (es : List Entry) → o ≡ some es → equipment_answer es arms weights nonlifting ≡ equipment_for o arms weights nonlifting
  unfolding equipment_for
  equipment_held arms weights nonlifting es e = rw e

  pub placard_twelve : (out : List ℕ) (a : Result Placard Refusal) (r : Refusal) → a ≡ Err r → Bare o r → (a, out) ≡ placard_for o out
  unfolding placard_for
  placard_twelve out a r e h = rw (e, h.1, h.0)

  pub placard_held : (out : List ℕ) (es : List Entry) → o ≡ some es → placard_answer es out ≡ placard_for o out
  unfolding placard_for
  placard_held out es e = rw e
