-- The numbers that kinds of entry and refusals have, and the number that an answer stands for.
use Rattle.std.specs.Prelude.{◌≡◌, cond, ℕ, eqb, List, ◌++◌, codes, Result, Ok, Err, MatchResult}
use Rattle.std.specs.Fmt.{decimal}
use Rattle.paper.specs.declared.Kind.{Kind}
use Rattle.paper.specs.declared.Kind.TheVariants as kind
use Rattle.paper.specs.declared.Unknown.{Unknown}
use Rattle.paper.specs.declared.Refusal.{Refusal}
use Rattle.paper.specs.declared.Refusal.TheVariants as refusal

-- "The file": the byte that stands for a kind of entry
abbrev pub code_of : Kind → ℕ
code_of kind.Weighing = 1
code_of kind.Sheet = 2
code_of kind.Change = 3
code_of kind.Paired = 4
code_of kind.Seat = 5

-- the kind of a byte, or that no kind has it
abbrev pub Decodes : ℕ → Result Kind Unknown → Type 0
Decodes n r = MatchResult r (λ k. code_of k ≡ n) (λ e. (e.0 ≡ n) × ((k : Kind) → code_of k ≡ n → ⊥))

-- "Numbers of refusal": a refusal's
abbrev pub number_of : Refusal → ℕ
number_of refusal.Reading = 1
number_of refusal.Distance = 2
number_of refusal.NonLifting = 3
number_of refusal.Range = 4
number_of refusal.Rows = 5
number_of refusal.Change = 6
number_of refusal.NoWeighing = 7
number_of refusal.NoSheet = 8
number_of refusal.Full = 9
number_of refusal.Empty = 10
number_of refusal.ShortBuffer = 11
number_of refusal.NoFile = 12
number_of refusal.Unsteady = 13
number_of refusal.Load = 14

-- what is printed of a refusal
abbrev pub refusal_text : Refusal → List ℕ
refusal_text r = codes "refused " ++ decimal (number_of r)

-- the number of an answer: 0 where the call is accepted
abbrev pub number_in : {A : Type 0} → Result A Refusal → ℕ
number_in (Ok x) = 0
number_in (Err r) = number_of r

-- the refusal that has a number
unfoldable pub refusal_of : ℕ → Refusal
refusal_of n =
    cond (eqb n 1) refusal.Reading
    (cond (eqb n 2) refusal.Distance
    (cond (eqb n 3) refusal.NonLifting
    (cond (eqb n 4) refusal.Range
    (cond (eqb n 5) refusal.Rows
    (cond (eqb n 6) refusal.Change
    (cond (eqb n 7) refusal.NoWeighing
    (cond (eqb n 8) refusal.NoSheet
    (cond (eqb n 9) refusal.Full
    (cond (eqb n 10) refusal.Empty (cond (eqb n 11) refusal.ShortBuffer
    (cond (eqb n 12) refusal.NoFile (cond (eqb n 13) refusal.Unsteady refusal.Load))))))))))))

-- what a call answers by its number: a refusal where it is not 0
abbrev pub answer_of : {A : Type 0} → ℕ → A → Result A Refusal
answer_of n x = cond (eqb n 0) (Ok x) (Err (refusal_of n))
