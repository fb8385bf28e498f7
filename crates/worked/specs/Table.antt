-- "Plates worked through": the cases A to K in one table, and some beside them. antt computes a test of all of them at once, and
-- what passes the test holds of the definitions. Assumes nothing.
use Rattle.std.specs.Prelude.{◌≡◌, refl, Bool, true, false, not, ◌&&◌, Some, None, Result, Ok, Err, List, [], ◌∷◌, ◌++◌, map, ℕ, ◌≤◌, leb, eqb, ℤ, pos, length, replicate}
use Rattle.std.proofs.Common.{sym, ap, ◌∙◌, true≢false, eqb-true, leb-true}
use Rattle.std.proofs.Math.Option.{Option, none, some, or_else}
use Prim.Native.Char.{code}
use Prim.Native.String.{String, [] as []ˢ, ◌∷◌ as ◌∷ˢ◌}
use Rattle.std.proofs.lemmas.Bool.{not-true}
use Rattle.laws.specs.Tests.{isnt, left, right}
use Rattle.laws.specs.Equal.{eq_z, same_Z, eq_list, same_list}
use Rattle.laws.specs.Lists.{Each}
use Rattle.paper.specs.declared.Weighing.{Weighing}
use Rattle.paper.specs.declared.Sheet.{Sheet}
use Rattle.paper.specs.declared.Seat.{Seat}
use Rattle.paper.specs.declared.Entry.{Entry}
use Rattle.paper.specs.declared.Entry.TheVariants as entry
use Rattle.paper.specs.declared.Placard.{Placard}
use Rattle.paper.specs.declared.Refusal.{Refusal}
use Rattle.paper.specs.declared.Refusal.TheVariants.{ShortBuffer}
use Rattle.paper.specs.Numbers.{refusal_of}
use Rattle.paper.specs.Units.{is_weight, is_arm, half_grams}
use Rattle.paper.specs.Record.{Balance, total_of, moment_of, alike, weighed, with, changed, changed_by, changes_of, last_weighing, balance_of, centre_of, sheet_of, is_none, sheet_stands, seat_of, ends_of}
use Rattle.paper.specs.Rows.{Row, every_arm, keeps_at, row, below, loads_of, joined, loads, row_count}
use Rattle.paper.specs.Placard.{feed, digits, kilograms, ends, line, text, text_length, blank_of}
use Rattle.paper.specs.File.{bytes_of, field_bytes, layout_of, fields_bytes, entry_bytes, body_as, file_as, file_bytes}
use Rattle.paper.specs.Refusals.{first_number, full, is_total, is_non_lifting, bad_reading, bad_distance, bad_part, weighing_faults, weighing_number, bad_arms, bad_ranges, bad_rows, sheet_faults, sheet_number, afterwards, is_change, bad_change, change_faults, change_number, bad_ends, seat_faults, seat_number}
use Rattle.paper.specs.Refusals.{placard_too_long, placard_number, entry_number, accepted_after, accepted}
use Rattle.paper.specs.Answers.{over, placard_refused, placard_answer}
use Rattle.planes.specs.Plane.{kept_at}
use Rattle.planes.proofs.HalfPlanes.{planes_of, keeps_planes}
use Rattle.planes.proofs.Convex.{convex}
use Rattle.worked.specs.Plates.{minus, weighing, blanik, G, H, I, J, gram_more, equals, G_between, J_between, J_weighed, G_ended, quarters, grams}
use Rattle.worked.specs.Equal.{eq_placard, eq_result, eq_row, same_row, Line, eq_line, same_line, eq_answer, same_answer}
use Rattle.worked.specs.Search.{kept_by, kept_by_lem, row_by, row_is, text_by, text_is, answer_by, answer_is}

-- ---- the table

pub data Case : Type 0 where
  -- a weighing, its total and its moment, in half grams
  weighs : Weighing → ℤ → ℤ → Case
  -- a weighing and its empty centre of gravity
  centres : Weighing → ℤ → Case
  -- a list of entries, a rear load, water and their row
  a_row : List Entry → ℕ → ℕ → Row → Case
  -- a list, and two front loads that its exact minimum without rear load and water lies between
  begins : List Entry → ℕ → ℕ → Case
  -- a list and all rows of its placard
  rows : List Entry → List Line → Case
  -- a list and the lines that its placard prints
  prints : List Entry → List String → Case
  -- a list and its file
  files : List Entry → List ℕ → Case
  -- a list, a buffer as lent, the answer of the placard call and the buffer as it leaves it
  places : List Entry → List ℕ → Result Placard Refusal → List ℕ → Case

-- the bytes of a printed line, and of some, each with a line feed behind it
abbrev pub bytes : String → List ℕ
bytes []ˢ = []
bytes (c ∷ˢ cs) = code c ∷ bytes cs

abbrev pub printed : List String → List ℕ
printed [] = []
printed (l ∷ ls) = bytes l ++ feed ∷ printed ls

-- G's rows
abbrev G_rows : List Line
G_rows =
    (0, 0, Some (71000, 92000)) ∷
    (0, 50000, Some (71000, 92000)) ∷
    (0, 100000, None) ∷ []

-- J's with a seat from -126,000 to -120,000
abbrev J_between_rows : List Line
J_between_rows =
    (0, 0, Some (70000, 110000)) ∷
    (55000, 0, Some (55000, 107000)) ∷
    (110000, 0, Some (40000, 80000)) ∷ []

-- J's placard
abbrev J_lines : List String
J_lines =
    "0000.000 0000.000 0069.000 0110.000" ∷
    "0055.000 0000.000 0054.000 0109.000" ∷
    "0110.000 0000.000 0040.000 0080.000" ∷ []

abbrev pub table : List Case
table =
    -- A
    weighs blanik (pos 620000) (pos 38780000000) ∷
    -- B
    centres blanik (pos 62548) ∷
    -- C
    weighs (weighing 2 310000 280100 (minus 9500) 550000) (pos 620000) (pos 38780000000) ∷
    -- D
    weighs (weighing 3 355 90 (pos 50) 13350) (pos 890) (pos 2358500) ∷
    -- E
    weighs (weighing 4 460 15 (pos 3000) 10300) (pos 890) (pos 2361000) ∷
    -- F
    centres (weighing 1 2 1 (pos 0) 50001) (pos 25001) ∷
    centres (weighing 1 2 1 (minus 50001) 50001) (minus 25000) ∷
    -- G
    rows G G_rows ∷
    prints G (
    "0000.000 0000.000 0071.000 0092.000" ∷
    "0000.000 0050.000 0071.000 0092.000" ∷
    "0000.000 0100.000 -------- --------" ∷ []
    ) ∷
    -- H
    a_row H 0 0 (Some (64000, 87000)) ∷
    begins H 63000 63001 ∷
    -- I
    rows I ((0, 0, None) ∷ (0, 50000, None) ∷ (0, 100000, None) ∷ []) ∷
    -- J
    rows J (
    (0, 0, Some (69000, 110000)) ∷
    (55000, 0, Some (54000, 109000)) ∷
    (110000, 0, Some (40000, 80000)) ∷ []
    ) ∷
    -- K
    files [] (0 ∷ 0 ∷ 0 ∷ 2 ∷ 2 ∷ 0 ∷ []) ∷
    -- beside the paper's: the Astir at 288,000 and 288,001 g has room for 91 kg below DRY and not for 92, and at two equal readings
    -- it has G's rows
    rows gram_more (
    (0, 0, Some (71000, 91000)) ∷
    (0, 50000, Some (71000, 91000)) ∷
    (0, 100000, None) ∷ []
    ) ∷
    rows equals G_rows ∷
    -- seats: equal ends at the sheet's arm are G; J has its smallest loads by the higher end and its largest by the lower one, also
    -- where the glider is weighed behind the seat; each end of the next seat alone leaves 55 to 59 kg, or 82 to 92, and no load is
    -- good for both; a sheet ends the seat, though it is equal
    rows (G_between (minus 47500) (minus 47500)) G_rows ∷
    rows (J_between (minus 126000) (minus 120000)) J_between_rows ∷
    rows (J_weighed (minus 126000) (minus 120000)) J_between_rows ∷
    rows (G_between (minus 160000) (minus 35000)) ((0, 0, None) ∷ (0, 50000, None) ∷ (0, 100000, None) ∷ []) ∷
    rows (G_ended (minus 160000) (minus 35000)) G_rows ∷
    -- J into a buffer with two bytes more, of exactly its length, and with one too few
    places J (replicate 110 7) (Ok (record { bytes = 108; rows = 3; blank = 0 })) (printed J_lines ++ 7 ∷ 7 ∷ []) ∷
    places J (replicate 108 7) (Ok (record { bytes = 108; rows = 3; blank = 0 })) (printed J_lines) ∷
    places J (replicate 107 7) (Err ShortBuffer) (replicate 107 7) ∷
    -- loads that are no whole kilograms
    rows quarters (
    (0, 0, Some (70250, 91250)) ∷
    (0, 33333, Some (70250, 78500)) ∷
    (12345, 0, Some (65250, 79500)) ∷
    (12345, 33333, Some (65250, 66250)) ∷ []
    ) ∷
    prints quarters (
    "0000.000 0000.000 0070.250 0091.250" ∷
    "0000.000 0033.333 0070.250 0078.500" ∷
    "0012.345 0000.000 0065.250 0079.500" ∷
    "0012.345 0033.333 0065.250 0066.250" ∷ []
    ) ∷
    rows grams (
    (0, 0, Some (6, 25)) ∷
    (0, 7, Some (6, 23)) ∷
    (0, 14, Some (6, 20)) ∷
    (3, 0, Some (7, 25)) ∷
    (3, 7, Some (7, 23)) ∷
    (3, 14, Some (7, 21)) ∷ []
    ) ∷
    prints grams (
    "0000.000 0000.000 0000.006 0000.025" ∷
    "0000.000 0000.007 0000.006 0000.023" ∷
    "0000.000 0000.014 0000.006 0000.020" ∷
    "0000.003 0000.000 0000.007 0000.025" ∷
    "0000.003 0000.007 0000.007 0000.023" ∷
    "0000.003 0000.014 0000.007 0000.021" ∷ []
    ) ∷ []

-- ---- what a case says

-- a list has a sheet in force and a balance, of which and of the seat's ends this holds
abbrev pub Has : List Entry → (Sheet → Seat → Balance → Type 0) → Type 0
Has es P = (s : Sheet) × (b : Balance) × (sheet_of es ≡ some s) × (balance_of es ≡ some b) × P s (ends_of s (seat_of es)) b

-- the lines of a sheet's placard, where g gives the row of a rear load and water
abbrev pub lines_by : (ℕ → ℕ → Row) → Sheet → List Line
lines_by g s = map (λ (x : ℕ × ℕ). (x.0, x.1, g x.0 x.1)) (loads s)

-- the entries that a case is about
abbrev pub entries_of : Case → List Entry
entries_of (weighs w g m) = entry.Weighing w ∷ []
entries_of (centres w c) = entry.Weighing w ∷ []
entries_of (a_row es r w x) = es
entries_of (begins es lo hi) = es
entries_of (rows es ls) = es
entries_of (prints es ls) = es
entries_of (files es xs) = es
entries_of (places es buffer a left) = es

-- the first number that passes a test lies behind lo and is hi at most
abbrev pub BeginsBetween : (ℕ → Bool) → ℕ → ℕ → Type 0
BeginsBetween q lo hi = ((p : ℕ) → p ≤ lo → q p ≡ false) × (q hi ≡ true)

-- what they give; the exact minimum, whatever the front step, is of the loads that keep the limits at every arm of the seat
abbrev pub Gives : Case → Type 0
Gives (weighs w g m) = ((weighed (alike w)).total ≡ g) × ((weighed (alike w)).moment ≡ m)
Gives (centres w c) = centre_of (weighed (alike w)) ≡ c
Gives (a_row es r w x) = Has es (λ s f b. row s f b r w ≡ x)
Gives (begins es lo hi) =
    Has es (λ s f b. BeginsBetween (λ (p : ℕ). every_arm f (λ (arm : ℤ). keeps_at s arm b 0 p 0)) lo hi)
Gives (rows es ls) = Has es (λ s f b. lines_by (row s f b) s ≡ ls)
Gives (prints es ls) = Has es (λ s f b. text s f b ≡ printed ls)
Gives (files es xs) = file_bytes es ≡ xs
Gives (places es buffer a left) = placard_answer es buffer ≡ (a, left)

-- its entries are accepted in turn by a fresh record, and give what it says
abbrev pub Says : Case → Type 0
Says c = (accepted (entries_of c) ≡ true) × Gives c

-- ---- the test: as the case says, with each row by the shorter search of `row_by`

abbrev has : Option Sheet → Option Seat → Option Balance → (Sheet → Seat → Balance → Bool) → Bool
has none f o t = false
has (some s) f none t = false
has (some s) f (some b) t = t s (ends_of s f) b

gives : Case → Bool
unfolding total_of moment_of weighed centre_of sheet_of seat_of sheet_stands balance_of last_weighing changes_of changed_by changed with half_grams or_else kept_by row_by loads loads_of joined below line kilograms digits ends file_as body_as entry_bytes fields_bytes field_bytes bytes_of layout_of placard_number placard_too_long placard_refused first_number is_none text_length row_count blank_of over refusal_of eq_result eq_placard
gives (weighs w g m) = eq_z (weighed (alike w)).total g && eq_z (weighed (alike w)).moment m
gives (centres w c) = eq_z (centre_of (weighed (alike w))) c
gives (a_row es r w x) = has (sheet_of es) (seat_of es) (balance_of es) (λ s f b. eq_row (row_by s f b r w) x)
gives (begins es lo hi) =
    has (sheet_of es) (seat_of es) (balance_of es) (λ s f b. leb lo hi && (not (kept_by s f b 0 lo 0) && kept_by s f b 0 hi 0))
gives (rows es ls) = has (sheet_of es) (seat_of es) (balance_of es) (λ s f b. eq_list eq_line (lines_by (row_by s f b) s) ls)
gives (prints es ls) =
    has (sheet_of es) (seat_of es) (balance_of es) (λ s f b. eq_list eqb (text_by (row_by s f b) s) (printed ls))
gives (files es xs) = eq_list eqb (file_bytes es) xs
gives (places es buffer a left) =
    eq_answer (answer_by (placard_number es (length buffer)) (sheet_of es) (seat_of es) (balance_of es) buffer) (a, left)

accepts : List Entry → Bool
unfolding accepted accepted_after entry_number weighing_number sheet_number change_number seat_number weighing_faults sheet_faults change_faults seat_faults bad_ends sheet_stands sheet_of first_number full is_none afterwards is_total is_non_lifting bad_reading bad_distance bad_part bad_arms bad_ranges bad_rows is_change bad_change row_count is_weight is_arm weighed total_of moment_of changed with half_grams balance_of last_weighing changes_of changed_by or_else
accepts es = accepted es

-- ---- what passes is as the case says

has_told : {P : Sheet → Seat → Balance → Type 0} (es : List Entry) (t : Sheet → Seat → Balance → Bool) → ((s : Sheet) (f : Seat) (b : Balance) → t s f b ≡ true → P s f b) → has (sheet_of es) (seat_of es) (balance_of es) t ≡ true → Has es P
has_told {P} es t h e = by (sheet_of es) (balance_of es) refl refl e
  where
    by : (o : Option Sheet) (q : Option Balance) → sheet_of es ≡ o → balance_of es ≡ q → has o (seat_of es) q t ≡ true → Has es P
    by none q x y e = absurd (true≢false (sym e))
    by (some s) none x y e = absurd (true≢false (sym e))
    by (some s) (some b) x y e = (s, b, x, y, h s (ends_of s (seat_of es)) b e)

-- where one load keeps the limits and a smaller one does not, none before that does
begins_told : (s : Sheet) (f : Seat) (b : Balance) (lo hi : ℕ) → (leb lo hi && (not (kept_by s f b 0 lo 0) && kept_by s f b 0 hi 0)) ≡ true → BeginsBetween (λ (p : ℕ). every_arm f (λ (arm : ℤ). keeps_at s arm b 0 p 0)) lo hi
unfolding kept_at
begins_told s f b lo hi t =
    let k = kept_by s f b 0 lo 0 in
    let l = kept_by s f b 0 hi 0 in
    let both = right (leb lo hi) (not k && l) t in
    let none = kept_by_lem s f b 0 lo 0 ∙ not-true k (left (not k) l both) in
    let kept = kept_by_lem s f b 0 hi 0 ∙ right (not k) l both in
    let h = leb-true lo hi (left (leb lo hi) (not k && l) t) in (
      λ p m.
          isnt (kept_at s f b 0 p 0)
          (λ e. true≢false (sym (convex (kept_at s f b 0) (planes_of s f b 0) (keeps_planes s f b 0) 0 p lo hi m h e kept) ∙ none)),
      kept,
    )

told : (c : Case) → gives c ≡ true → Gives c
unfolding gives placard_answer
told (weighs w g m) e =
    let b = weighed (alike w) in
    let t = eq_z b.total g in
    let u = eq_z b.moment m in
    (same_Z b.total g (left t u e), same_Z b.moment m (right t u e))
told (centres w c) e = same_Z (centre_of (weighed (alike w))) c e
told (a_row es r w x) e =
    has_told es _ (λ s f b t. ap (λ (g : ℕ → ℕ → Row). g r w) (row_is s f b) ∙ same_row (row_by s f b r w) x t) e
told (begins es lo hi) e = has_told es _ (λ s f b t. begins_told s f b lo hi t) e
told (rows es ls) e =
    has_told es _
    (λ s f b t.
    ap (λ (g : ℕ → ℕ → Row). lines_by g s) (row_is s f b) ∙ same_list eq_line same_line (lines_by (row_by s f b) s) ls t) e
told (prints es ls) e =
    has_told es _ (λ s f b t. text_is s f b ∙ same_list eqb eqb-true (text_by (row_by s f b) s) (printed ls) t) e
told (files es xs) e = same_list eqb eqb-true (file_bytes es) xs e
told (places es buffer a left) e =
    let n = placard_number es (length buffer) in
    answer_is n (sheet_of es) (seat_of es) (balance_of es) buffer
    ∙ same_answer (answer_by n (sheet_of es) (seat_of es) (balance_of es) buffer) (a, left) e

-- ---- the theorem

unfoldable pub each_passes : List Case → Bool
unfolding accepts gives
each_passes [] = true
each_passes (c ∷ cs) = accepts (entries_of c) && (gives c && each_passes cs)

pub each_told : (cs : List Case) → each_passes cs ≡ true → Each Says cs
unfolding each_passes accepts
each_told [] e = tt
each_told (c ∷ cs) e =
    let t = accepts (entries_of c) in
    let more = right t (gives c && each_passes cs) e in
    ((left t (gives c && each_passes cs) e, told c (left (gives c) (each_passes cs) more)), each_told cs (right (gives c) (each_passes cs) more))

pub a_to_k : Each Says table
unfolding each_passes
a_to_k = each_told table refl
