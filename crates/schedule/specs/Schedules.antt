-- The schedule of equipment: a line for each station from the nose aft, with its arm and the nets there, and then the sums.
use Rattle.std.specs.Prelude.{List, [], ◌∷◌, ◌++◌, map, ℕ, suc, ◌/◌, ◌^◌, ◌≤◌, ◌<◌, codes, ltb, ℤ, pos, negsuc, length, get_or, Result}
use Rattle.laws.specs.Z.{Within}
use Rattle.paper.specs.declared.Entry.{Entry}
use Rattle.paper.specs.declared.Equipment.{Equipment}
use Rattle.paper.specs.declared.Refusal.{Refusal}
use Rattle.paper.specs.Record.{balance_of, is_none}
use Rattle.paper.specs.Equipment.{fitted, equipment_of, total}
use Rattle.paper.specs.Rows.{joined}
use Rattle.paper.specs.Placard.{space, feed, hyphen, point, digits}
use Rattle.paper.specs.Answers.{written_by}
use Rattle.paper.specs.Refusals.{first_number, ◌when◌}
use Rattle.stations.specs.More.{most_net}
use Rattle.numerals.specs.Numerals.{decimal}

-- a number without a sign in units of the k-th decimal: the whole part, a point and k digits
unfoldable pub decimals : ℕ → ℕ → List ℕ
decimals k n = decimal (n / 10 ^ k) ++ point ∷ digits k n

-- the same with a sign: a hyphen in front of what is below 0
unfoldable pub fixed : ℕ → ℤ → List ℕ
fixed k (pos n) = decimals k n
fixed k (negsuc n) = hyphen ∷ decimals k (suc n)

-- how a line ends: a net weight and a net non-lifting weight in kilograms with three decimals, and a line feed
unfoldable pub nets : ℤ → ℤ → List ℕ
nets weight nonlifting = space ∷ fixed 3 weight ++ space ∷ fixed 3 nonlifting ++ feed ∷ []

-- the line of some equipment: its arm in millimetres with two decimals, and its nets
unfoldable pub line_of : Equipment → List ℕ
line_of e = fixed 2 e.arm ++ nets e.weight e.nonlifting

-- the last line: the sums of the nets
unfoldable pub sums : List Equipment → List ℕ
sums es =
    codes "sum" ++ nets (total (λ (x : Equipment). x.weight) es) (total (λ (x : Equipment). x.nonlifting) es)

-- the schedule of a list: its lines in turn, and then the sums
unfoldable pub schedule : List Equipment → List ℕ
schedule es = joined (map line_of es) ++ sums es

-- a list whose schedule can be written: of at most 64 stations, each net within that bound
pub record Few (es : List Equipment) : Type 0 where
  pub count : length es ≤ 64
  pub weight : (i : ℕ) (d : Equipment) → i < length es → Within most_net (get_or es i d).weight
  pub nonlifting : (i : ℕ) (d : Equipment) → i < length es → Within most_net (get_or es i d).nonlifting

-- the schedule of a list of entries into a buffer of n bytes: 7, 11
unfoldable pub schedule_number : List Entry → ℕ → ℕ
schedule_number es n =
    first_number (7 when is_none (balance_of es) ∷ 11 when ltb n (length (schedule (equipment_of (fitted es)))) ∷ [])

-- the answer, and the buffer as the call leaves it
unfoldable pub schedule_answer : List Entry → List ℕ → Result ℕ Refusal × List ℕ
schedule_answer es buffer =
    written_by (schedule_number es (length buffer)) (schedule (equipment_of (fitted es))) buffer
