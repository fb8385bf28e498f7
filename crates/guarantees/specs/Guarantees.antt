-- The guarantees, in README's order ("What is proved"): each stated in full, and proved by the theorem that it cites. That each
-- call meets its own promise, README's first, is no theorem but what the checker says of each function.
--
-- The hypotheses are lists of calls as they run and single calls, by the calls' own promises: `read.Post` is what the contract
-- of `file::read` promises of one call (its arguments, its answer, the arguments as it leaves them), and so with the others. What
-- the words mean is in crates/paper/specs, for equipment in crates/inventory/specs and crates/schedule/specs, and for the logbook and
-- the library in crates/language/specs, crates/book/specs, crates/front/specs, crates/lent/specs and crates/nodhulika/specs;
-- docs/ARCHITECTURE.md leads from the paper to each of them. Assumes nothing.
use Rattle.std.specs.Prelude.{◌≡◌, refl, Bool, true, false, not, ◌&&◌, List, [], ◌∷◌, map, Option, ℕ, ◌*◌, ◌≤◌, ◌<◌, ℤ, length, get_or, set, take, Result, Ok, Some}
use Rattle.std.proofs.Common.{sym, ◌∙◌}
use Rattle.std.proofs.Math.Option.{some}
use Rattle.std.specs.Int.Signed.{le_z}
use Rattle.std.specs.Borrow.{Bor, MutBor}
use Rattle.std.specs.Float.{Float}
use Rattle.laws.specs.Lists.{Each}
use Rattle.laws.specs.Splits.{split}
use Rattle.laws.specs.Sides.{value_of}
use Rattle.paper.specs.declared.Change.{Change}
use Rattle.paper.specs.declared.Entry.{Entry}
use Rattle.paper.specs.declared.CentreOfGravity.{CentreOfGravity}
use Rattle.paper.specs.declared.Placard.{Placard}
use Rattle.paper.specs.declared.Sheet.{Sheet}
use Rattle.paper.specs.declared.Seat.{Seat}
use Rattle.paper.specs.declared.Refusal.{Refusal}
use Rattle.paper.specs.Units.{between}
use Rattle.paper.specs.Record.{Balance as Plain, Readings, weighed, last_weighing, balance_of, sheet_of, seat_of, ends_of}
use Rattle.paper.specs.Equipment.{fitted, FromNose, equipment_of, arm_column, with_equipment, SameButOrder}
use Rattle.paper.specs.Indicator.{grams, IsNearest, Counts, SentWeighing, is_turned, paired_of}
use Rattle.paper.specs.Rows.{moment_beside, every_arm, some_arm, keeps_at}
use Rattle.paper.specs.Placard.{feed}
use Rattle.paper.specs.File.{file_as, file_bytes}
use Rattle.paper.specs.Refusals.{entry_number, accepted}
use Rattle.paper.specs.Answers.{over, equipment_answer}
use Rattle.paper.specs.Journal.{Call, pair, indicate, call_number, accepted_call, journal, numbers}
use Rattle.paper.proofs.Seats.{ends_of_lem}
use Rattle.paper.proofs.Feeding.{accepted_counts, accepted_pair}
use Rattle.floats.specs.Grams.{grams_nearest, only_grams}
use Rattle.seat.proofs.Lists.{ends-accepted}
use Rattle.format.specs.Files.{Allows}
use Rattle.balance.specs.declared.Balance.{Balance}
use Rattle.balance.specs.Balance.{plain, Bounded}
use Rattle.stations.proofs.Arms.{arms_are, only_arms, column_is}
use Rattle.stations.proofs.Sums.{balance_by_station}
use Rattle.planes.specs.Plane.{kept_at}
use Rattle.planes.proofs.Arms as arms
use Rattle.aboard.specs.declared.Laden.{Laden}
use Rattle.group.specs.declared.Terms.{Terms}
use Rattle.record.specs.declared.Record.{Record}
use Rattle.record.proofs.Calls.{Answer}
use Rattle.record.specs.Held.{record_of, held_by}
use Rattle.file.specs.Longest as file
use Rattle.file.proofs.longest.Reads as file-longest
use Rattle.file.proofs.write.Reads as write
use Rattle.file.proofs.read.Reads as read
use Rattle.file.proofs.RoundTrips as trips
use Rattle.record.proofs.Record.centre_of_gravity.Reads as centre
use Rattle.plate.specs.Longest as plate
use Rattle.plate.proofs.longest.Reads as plate-longest
use Rattle.plate.proofs.placard.Reads as placard
use Rattle.inventory.specs.Most.{IsMost}
use Rattle.inventory.proofs.most.Reads as most
use Rattle.inventory.proofs.equipment.Reads as equipment
use Rattle.inventory.proofs.show.Reads as schedule
use Rattle.schedule.specs.Schedules.{schedule_answer}
use Rattle.front.specs.Front.{held_in}
use Rattle.lent.specs.Lent.{lent_call, lent_read, numbers_in, journal_in}
use Rattle.nodhulika.specs.Exported.{equipment_into}
use Rattle.nodhulika.proofs.nodhulika_equipment.Reads as library-equipment
use Rattle.nodhulika.proofs.nodhulika_placard.Reads as library-placard
use Rattle.language.specs.declared.Line.{Line}
use Rattle.language.specs.Lines.{Means}
use Rattle.language.proofs.Exactly as exactly
use Rattle.language.proofs.read_line.Reads as read-line
use Rattle.book.specs.declared.Failure.{Failure}
use Rattle.book.proofs.Journals.{calls_of, whole_book}
use Rattle.book.proofs.read.Reads as read-book
use Rattle.listing.proofs.show.Reads as show
use Rattle.listing.proofs.ReadAgain as read_again
use Rattle.worked.specs.Table.{table, Says, a_to_k}
use Rattle.worked.specs.Indicator.{floats, told, floats_told, indicated, indicated_numbers}
use Rattle.worked.specs.Stations.{early, late, early_late, early_accepted, late_accepted, ten, twelve_less, more_first, less_first, same_changes, more_first_accepted, less_first_refused, less_first_number}
use Rattle.claim.specs.Demand3 as claim
use Rattle.claim.specs.Demand3.{Demand3, EachReading}
use Rattle.claim.specs.RecordCalls as on-record
use Rattle.claim.proofs.RecordCalls as record-claim
use Rattle.claim.specs.Buffers.{call_renewed, read_renewed, room_for_all}
use Rattle.claim.specs.LibraryCalls as of-library
use Rattle.claim.proofs.LibraryCalls as library-claim
use Rattle.claim.specs.Records as records
use Rattle.claim.proofs.Stations as by-station
use Rattle.claim.specs.Carrying.{Carrying, sheet_in, row_moment, every_row_carried}

-- ---- the whole list

-- Demand 3: every list of calls from a fresh record, and a placard after it on any buffer.
pub demand_3 : {calls : List Call} {r : Record} {answers : List ℕ} → on-record.Trace calls r answers
    → (κs : _) (b b' : Bor Record) (o o' : MutBor (List ℕ)) (a : Result Placard Refusal) → b.now ≡ r → placard.Post κs (b, (o, tt)) a (b', (o', tt))
    → Demand3 (numbers calls) (journal calls) answers o.now a o'.now
demand_3 = record-claim.demand_3

-- It is about something: every list of calls has a trace, and a placard call after it.
pub every_list_runs : (calls : List Call) (lent : List ℕ) → on-record.Run calls lent
every_list_runs = on-record.every_list_runs

-- No range that is read off such a placard, of a record or of the library to link, begins at 0, whatever the sheet's least load.
pub none_from_nought : {numbers : List ℕ} {es : List Entry} {answers lent : List ℕ} {a : Result Placard Refusal} {left : List ℕ} → Demand3 numbers es answers lent a left
    → EachReading es a left (λ s f b r w rear water x. (lo hi : ℕ) → x ≡ Some (lo, hi) → 1 ≤ lo)
none_from_nought = claim.none_from_nought

-- A list of calls leaves the record of its journal, whatever was refused on the way.
pub journal_record : {calls : List Call} {r : Record} {answers : List ℕ} → on-record.Trace calls r answers → r ≡ record_of (journal calls)
journal_record = records.journal_record

-- ---- rows

-- The moment carried down the page to the k-th row beside a rear load, the first being the 0th, is M with that rear load and all
-- of the row's water at their arms. It starts afresh with the rear load (`Arms::beside`) and goes on by the share of a step of
-- water (`Laden::carried`).
pub moment_carried : (t : Terms) (b : Balance) (rear : ℕ) {k : ℕ} {x : Laden} → Carrying t b rear k x
    → value_of x.moment ≡ moment_beside (sheet_in t) (plain b) rear (k * (sheet_in t).water.step)
moment_carried = row_moment

-- It is about something: within the bounds that accepted sheets and lists keep to, something is carried to every row.
pub something_carried : (t : Terms) (b : Balance) (rear : ℕ) → Bounded 1024 b → rear ≤ 500000 → (k : ℕ) → (x : Laden) × Carrying t b rear k x
something_carried = every_row_carried

-- The arms that demand 3 speaks of are the whole numbers between the two ends of the seat, both included.
pub every_arm-between : (f : Seat) → le_z f.lower f.higher ≡ true → (q : ℤ → Bool)
    → (every_arm f q ≡ true → (arm : ℤ) → between f.lower f.higher arm ≡ true → q arm ≡ true) × (((arm : ℤ) → between f.lower f.higher arm ≡ true → q arm ≡ true) → every_arm f q ≡ true)
every_arm-between = arms.every_between

-- The lower end is never behind the higher one in a list that accepted calls give.
pub ends_in_order : (es : List Entry) (s : Sheet) → accepted es ≡ true → sheet_of es ≡ some s → le_z (ends_of s (seat_of es)).lower (ends_of s (seat_of es)).higher ≡ true
ends_in_order es s h e = (ends_of_lem (ends_of s (seat_of es)) (ends-accepted es s h e)).order

-- Some such arm passes a test where not every one fails it.
pub some_arm_lem : (f : Seat) (q : ℤ → Bool) → some_arm f q ≡ not (every_arm f (λ (arm : ℤ). not (q arm)))
some_arm_lem = arms.some_not_every

-- The two ends decide: a load keeps every limit with v aboard at every arm where it does at both, for every sheet and balance.
pub ends_decide : (s : Sheet) (f : Seat) (b : Plain) (r p v : ℕ) → le_z f.lower f.higher ≡ true → every_arm f (λ (arm : ℤ). keeps_at s arm b r p v) ≡ (keeps_at s f.lower b r p v && keeps_at s f.higher b r p v)
unfolding kept_at
ends_decide = arms.ends_decide

-- ---- equipment by station

-- After a list of calls the call answers, and leaves of its three columns, what the journal of the calls says; so does that of the
-- library to link, with the count of arms.
pub equipment_after : {calls : List Call} {r : Record} {answers : List ℕ} → on-record.Trace calls r answers
    → (κs : _) (b b' : Bor Record) (x x' y y' z z' : MutBor (List ℤ)) (a : Result ℕ Refusal) → b.now ≡ r → equipment.Post κs (b, (x, (y, (z, tt)))) a (b', (x', (y', (z', tt))))
    → ◌≡◌ {A = Result ℕ Refusal × List ℤ × List ℤ × List ℤ} (a, x'.now, y'.now, z'.now) (equipment_answer (journal calls) x.now y.now z.now)
equipment_after = by-station.equipment_after

pub lent_equipment_after : {n : ℕ} {calls : List Call} {buffer answers : List ℕ} → of-library.Trace n calls buffer answers
    → (κs : _) (b b' : Bor (List ℕ)) (x x' y y' z z' : MutBor (List ℤ)) (c c' : MutBor ℕ) (k : ℕ) → b.now ≡ buffer → library-equipment.Post κs (b, (x, (y, (z, (c, tt))))) k (b', (x', (y', (z', (c', tt)))))
    → ◌≡◌ {A = ℕ × List ℤ × List ℤ × List ℤ × ℕ} (k, x'.now, y'.now, z'.now, c'.now) (equipment_into (some (journal_in n calls)) x.now y.now z.now c.now)
lent_equipment_after = by-station.lent_equipment_after

-- The schedule, its text, is that of the journal as well.
pub schedule_after : {calls : List Call} {r : Record} {answers : List ℕ} → on-record.Trace calls r answers
    → (κs : _) (b b' : Bor Record) (o o' : MutBor (List ℕ)) (a : Result ℕ Refusal) → b.now ≡ r → schedule.Post κs (b, (o, tt)) a (b', (o', tt))
    → ◌≡◌ {A = Result ℕ Refusal × List ℕ} (a, o'.now) (schedule_answer (journal calls) o.now)
schedule_after = by-station.schedule_after

-- The column of arms rises strictly and has just the arms of the changes behind the last weighing; no other column does. Beside
-- each arm stand the sums over the changes that are at it (`equipment_at`).
pub arms_from_nose : (es : List Entry) → FromNose (fitted es) (arm_column (equipment_of (fitted es)))
arms_from_nose es = rw (column_is (fitted es)) (arms_are (fitted es))

pub one_column : (es : List Entry) (arms : List ℤ) → FromNose (fitted es) arms → arms ≡ arm_column (equipment_of (fitted es))
one_column es arms h = only_arms (fitted es) arms h ∙ sym (column_is (fitted es))

-- No record has more arms than `inventory::most` answers, and one has just as many.
pub most_arms : (n : ℕ) → most.Post tt tt n tt → IsMost n
most_arms n h = h

-- The sums by station are those of the logbook's order: the nets add up to what the changes add to G, the nets at their arms to what
-- they add to M, and the net non-lifting weights to what they add to n (`with_equipment`).
pub sums_by_station : (es : List Entry) (r : Readings) (xs : List Change) → last_weighing es ≡ some (r, xs) → balance_of es ≡ some (with_equipment (weighed r) (equipment_of (fitted es)))
sums_by_station = balance_by_station

-- The order of the changes makes no difference. Two records whose lists have equal weighing, sheet and seat entries in equal order, and
-- from each weighing to the next or the end the same changes in any order (`SameButOrder`), print the same plate, byte for byte, on
-- every buffer; they have the same centre of gravity, and the same equipment.
pub same_plate : (r q : Record) → SameButOrder (held_by r) (held_by q)
    → (κs λs : _) (b b' c c' : Bor Record) (o o' p p' : MutBor (List ℕ)) (a k : Result Placard Refusal) → b.now ≡ r → c.now ≡ q → o.now ≡ p.now
    → placard.Post κs (b, (o, tt)) a (b', (o', tt)) → placard.Post λs (c, (p, tt)) k (c', (p', tt))
    → ◌≡◌ {A = Result Placard Refusal × List ℕ} (a, o'.now) (k, p'.now)
same_plate = by-station.same_plate

pub same_centre : (r q : Record) → SameButOrder (held_by r) (held_by q)
    → (κs λs : _) (b b' c c' : Bor Record) (a k : Result CentreOfGravity Refusal) → b.now ≡ r → c.now ≡ q
    → centre.Post κs (b, tt) a (b', tt) → centre.Post λs (c, tt) k (c', tt) → a ≡ k
same_centre = by-station.same_centre

pub same_equipment : (r q : Record) → SameButOrder (held_by r) (held_by q)
    → (κs λs : _) (b b' c c' : Bor Record) (x x' y y' z z' u u' v v' w w' : MutBor (List ℤ)) (a k : Result ℕ Refusal) → b.now ≡ r → c.now ≡ q → x.now ≡ u.now → y.now ≡ v.now → z.now ≡ w.now
    → equipment.Post κs (b, (x, (y, (z, tt)))) a (b', (x', (y', (z', tt)))) → equipment.Post λs (c, (u, (v, (w, tt)))) k (c', (u', (v', (w', tt))))
    → ◌≡◌ {A = Result ℕ Refusal × List ℤ × List ℤ × List ℤ} (a, x'.now, y'.now, z'.now) (k, u'.now, v'.now, w'.now)
same_equipment = by-station.same_equipment

-- The lists that records hold are those of accepted entries, and of records that calls gave the journals of the calls.
pub same_by_calls : {calls others : List Call} {r q : Record} {answers others-answers : List ℕ} → on-record.Trace calls r answers → on-record.Trace others q others-answers
    → SameButOrder (journal calls) (journal others) → SameButOrder (held_by r) (held_by q)
same_by_calls = by-station.same_by_calls

-- Of the library to link: two lent records print the same plate, with the same counts, and have the same equipment.
pub same_lent_plate : (es fs : List Entry) → SameButOrder es fs
    → (κs λs : _) (b b' c c' : Bor (List ℕ)) (o o' p p' x x' y y' : MutBor (List ℕ)) (n m : ℕ) → held_in b.now ≡ some es → held_in c.now ≡ some fs → o.now ≡ p.now → x.now ≡ y.now
    → library-placard.Post κs (b, (o, (x, tt))) n (b', (o', (x', tt))) → library-placard.Post λs (c, (p, (y, tt))) m (c', (p', (y', tt)))
    → ◌≡◌ {A = ℕ × List ℕ × List ℕ} (n, o'.now, x'.now) (m, p'.now, y'.now)
same_lent_plate = by-station.same_lent_plate

pub same_lent_equipment : (es fs : List Entry) → SameButOrder es fs
    → (κs λs : _) (b b' c c' : Bor (List ℕ)) (x x' y y' z z' u u' v v' w w' : MutBor (List ℤ)) (d d' e e' : MutBor ℕ) (n m : ℕ) → held_in b.now ≡ some es → held_in c.now ≡ some fs → x.now ≡ u.now → y.now ≡ v.now → z.now ≡ w.now → d.now ≡ e.now
    → library-equipment.Post κs (b, (x, (y, (z, (d, tt))))) n (b', (x', (y', (z', (d', tt))))) → library-equipment.Post λs (c, (u, (v, (w, (e, tt))))) m (c', (u', (v', (w', (e', tt)))))
    → ◌≡◌ {A = ℕ × List ℤ × List ℤ × List ℤ × ℕ} (n, x'.now, y'.now, z'.now, d'.now) (m, u'.now, v'.now, w'.now, e'.now)
same_lent_equipment = by-station.same_lent_equipment

-- It is about something: two such lists, with changes in turn and before and behind sheet and seat, are both accepted.
pub another_order : SameButOrder early late × (accepted early ≡ true) × (accepted late ≡ true)
another_order = (early_late, early_accepted, late_accepted)

-- Whether the entries are accepted does depend on the order: at G 10 g, 5 g more and then 12 g less is, 12 g less first is refused
-- as 6.
pub order_of_acceptance : SameButOrder more_first less_first × (accepted more_first ≡ true) × (accepted less_first ≡ false) × (entry_number (ten ∷ []) twelve_less ≡ 6)
order_of_acceptance = (same_changes, more_first_accepted, less_first_refused, less_first_number)

-- ---- weighings by an indicator

-- The grams of so many kilograms are the whole number that is nearest to 1000 times the float's exact value, and an even one where
-- another is as near; and no other number is so.
pub grams_are_nearest : (x : Float) → IsNearest x (grams x)
grams_are_nearest = grams_nearest

pub one_such_number : (x : Float) (g : ℕ) → IsNearest x g → g ≡ grams x
one_such_number = only_grams

-- Where a weighing by an indicator gets no number, each of its four readings is stable, in its ranges with its cell, and counts its
-- net to the gram, turned round for q and q' in method 4.
pub what_readings_count : (es : List Entry) (x : SentWeighing) → call_number es (indicate x) ≡ 0
    → Counts false x.p (paired_of x).p × Counts (is_turned x) x.q (paired_of x).q × Counts false x.p2 (paired_of x).p2 × Counts (is_turned x) x.q2 (paired_of x).q2
unfolding call_number
what_readings_count = accepted_counts

-- The paired weighing of these nets gets no number either, and the list after both is one: nothing of floats or cells is kept.
pub kept_as_paired : (es : List Entry) (x : SentWeighing) → call_number es (indicate x) ≡ 0
    → (call_number es (pair (paired_of x)) ≡ 0) × (accepted_call es (indicate x) ≡ accepted_call es (pair (paired_of x)))
unfolding call_number accepted_call
kept_as_paired es x n = (accepted_pair es x n, refl)

-- ---- files

-- What `file::longest` and `plate::longest` answer: no file, and no placard, has more bytes, and one has just as many.
pub longest_file : (n : ℕ) → file-longest.Post tt tt n tt → file.IsLongest n
longest_file n h = h

pub longest_placard : (n : ℕ) → plate-longest.Post tt tt n tt → plate.IsLongest n
longest_placard n h = h

-- A record that a list of calls gave, written into any buffer that holds it and read back from those bytes, is the same record.
pub written_then_read : {calls : List Call} {r : Record} {answers : List ℕ} → on-record.Trace calls r answers
    → (κs : _) (b b' : Bor Record) (o o' : MutBor (List ℕ)) (a : Result ℕ Refusal) → b.now ≡ r → write.Post κs (b, (o, tt)) a (b', (o', tt)) → length (file_bytes (held_by r)) ≤ length o.now
    → (λs : _) (q q' : MutBor Record) (i i' : Bor (List ℕ)) (k : Result (Unit {0}) Refusal) → read.Post λs (q, (i, tt)) k (q', (i', tt)) → ((n : ℕ) → a ≡ Ok n → i.now ≡ take n o'.now)
    → ◌≡◌ {A = Answer} (k, q'.now) (Ok tt, r)
written_then_read = records.saved_and_read

-- A file that reading accepts, of version 1 or 2, is written again with the version byte, its fifth, 2 and every other byte as it
-- was.
pub read_then_renewed : (κs : _) (q q' : MutBor Record) (i i' : _) (k : Result (Unit {0}) Refusal) → read.Post κs (q, (i, tt)) k (q', (i', tt)) → k ≡ Ok tt
    → (λs : _) (b b' : Bor Record) (o o' : _) (a : Result ℕ Refusal) → b.now ≡ q'.now → write.Post λs (b, (o, tt)) a (b', (o', tt)) → length i.now ≤ length o.now
    → (a ≡ Ok (length i.now)) × (o'.now ≡ over (set i.now 4 2) o.now)
read_then_renewed = trips.read_then_renewed

-- So a version 2 file is written again as it was.
pub read_then_written_again : (κs : _) (q q' : MutBor Record) (i i' : _) (k : Result (Unit {0}) Refusal) → read.Post κs (q, (i, tt)) k (q', (i', tt)) → k ≡ Ok tt
    → (λs : _) (b b' : Bor Record) (o o' : _) (a : Result ℕ Refusal) → b.now ≡ q'.now → write.Post λs (b, (o, tt)) a (b', (o', tt)) → length i.now ≤ length o.now
    → get_or i.now 4 0 ≡ 2 → (a ≡ Ok (length i.now)) × (o'.now ≡ over i.now o.now)
read_then_written_again = trips.read_then_written

-- Reading accepts the files of the lists that accepted calls give, in each version that has their kinds (`Allows`: version 2, and
-- version 1 where there is no paired weighing and no seat), and nothing else.
pub every_file_accepted : (κs : _) (q q' : MutBor Record) (i i' : _) (k : Result (Unit {0}) Refusal) → read.Post κs (q, (i, tt)) k (q', (i', tt))
    → (v : ℕ) (es : List Entry) → Allows v es → accepted es ≡ true → i.now ≡ file_as v es → ◌≡◌ {A = Answer} (k, q'.now) (Ok tt, record_of es)
every_file_accepted = trips.accepts_files

pub only_files_accepted : (κs : _) (q q' : MutBor Record) (i i' : _) (k : Result (Unit {0}) Refusal) → read.Post κs (q, (i, tt)) k (q', (i', tt))
    → k ≡ Ok tt → (v : ℕ) × (es : List Entry) × Allows v es × (accepted es ≡ true) × (i.now ≡ file_as v es) × (q'.now ≡ record_of es)
only_files_accepted = trips.accepts_only_files

-- ---- logbooks

-- What `language::read_line` answers is what the line means, and a line has no other meaning.
pub line_read_as_meant : (κs : _) (i i' : _) (l : Line) → read-line.Post κs (i, tt) l (i', tt) → Means i.now l × ((m : Line) → Means i.now m → m ≡ l)
line_read_as_meant = exactly.read_as_meant

-- A logbook that `book::read` takes to its end gives the record of the journal of its lines' calls, each of them accepted.
pub book_is_its_journal : (κs : _) (i i' : _) (k : Result Record Failure) (r : Record) → read-book.Post κs (i, tt) k (i', tt) → k ≡ Ok r
    → (r ≡ record_of (journal (calls_of (split feed i.now)))) × Each (λ (n : ℕ). n ≡ 0) (numbers (calls_of (split feed i.now)))
book_is_its_journal = whole_book

-- A record that a list of calls gave, shown and its listing read as a logbook, is the same record.
pub shown_then_read : {calls : List Call} {r : Record} {answers : List ℕ} → on-record.Trace calls r answers
    → (κs : _) (q q' : Bor Record) (o o' : _) (a : Result ℕ Refusal) (n : ℕ) → q.now ≡ r → show.Post κs (q, (o, tt)) a (q', (o', tt)) → a ≡ Ok n
    → (λs : _) (i i' : _) (k : Result Record Failure) → read-book.Post λs (i, tt) k (i', tt) → i.now ≡ take n o'.now
    → k ≡ Ok r
shown_then_read {r = r} t = read_again.shown_then_read r (on-record.follows t).made

-- ---- the library to link

-- Demand 3 once more: every list of its calls on a lent buffer, and a placard after it. The journal's numbers, and 11 where the
-- buffer has no room for the file afterwards.
pub library_demand_3 : {n : ℕ} {calls : List Call} {buffer answers : List ℕ} → of-library.Trace n calls buffer answers
    → (κs : _) (i i' : Bor (List ℕ)) (o o' c c' : MutBor (List ℕ)) (k : ℕ) → i.now ≡ buffer → library-placard.Post κs (i, (o, (c, tt))) k (i', (o', (c', tt)))
    → of-library.LibraryDemand3 n calls answers o.now c.now k o'.now c'.now
library_demand_3 = library-claim.demand_3

-- With room for every file, which 3,910 bytes are, it is the journal itself.
pub with-room_the_journal : (n : ℕ) → 3910 ≤ n → (calls : List Call) → (numbers_in n calls ≡ numbers calls) × (journal_in n calls ≡ journal calls)
with-room_the_journal = room_for_all

-- A record may be lent in a file of version 1. A call that adds an entry, or takes one back, and is refused leaves every byte of its
-- buffer, and one that is accepted leaves the version byte 2 there; so does reading back.
pub lent_renewed : (x : Call) (s : List ℕ) → (0 < (lent_call x s).0 → (lent_call x s).1 ≡ s) × ((lent_call x s).0 ≡ 0 → get_or (lent_call x s).1 4 0 ≡ 2)
lent_renewed = call_renewed

pub lent_read_renewed : (xs s : List ℕ) → (0 < (lent_read xs s).0 → (lent_read xs s).1 ≡ s) × ((lent_read xs s).0 ≡ 0 → get_or (lent_read xs s).1 4 0 ≡ 2)
lent_read_renewed = read_renewed

-- It is about something: every list of calls has a trace on every buffer that a fresh record fits.
pub every_library_list_runs : (calls : List Call) (first lent counts : List ℕ) → 6 ≤ length first → of-library.Run calls first lent counts
every_library_list_runs = of-library.every_list_runs

-- ---- worked cases

-- The paper's cases A to K, and further ones, computed from the definitions.
pub worked_cases : Each Says table
worked_cases = a_to_k

-- Floats by their patterns and their grams; and ten weighings by an indicator, with the number that each gets.
pub worked_floats : map (λ (x : ℕ × Option ℕ). told x.0) floats ≡ map (λ (x : ℕ × Option ℕ). x.1) floats
worked_floats = floats_told

pub worked_readings : numbers indicated ≡ 13 ∷ 14 ∷ 0 ∷ 0 ∷ 14 ∷ 14 ∷ 0 ∷ 14 ∷ 14 ∷ 1 ∷ []
worked_readings = indicated_numbers
