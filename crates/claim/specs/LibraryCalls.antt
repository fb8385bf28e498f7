-- Demand 3 of the library to link: every list of its calls on a lent buffer as it runs, what it leaves, what is demanded of a
-- placard asked for after it, and that every list runs. The claim itself is demand_3 (crates/claim/proofs: LibraryCalls).
--
-- The hypotheses are the functions' own promises and nothing else: `weigh.Post` is what the contract of `nodhulika_weigh` in
-- crates/nodhulika/src/lib.rt promises of one call, and so with the others; `o.now` are the bytes of a slice. The conclusion is
-- the record's, `Demand3`, of the journal of a record that is lent in n bytes (crates/lent/specs: numbers_in, journal_in): its
-- numbers are the table's, and 11 where the buffer has no room for the file afterwards. `room_for_all` (Buffers.antt)
-- shows that with 3,910 bytes it is the journal itself. Assumes nothing.
use Rattle.std.specs.Prelude.{◌≡◌, not, ◌&&◌, ℤ, Result}
use Rattle.std.proofs.Math.Path.{refl, ap}
use Rattle.std.proofs.Common.{sym, ◌∙◌, true≢false, mul-pos, lt-ltb}
use mathlib.Core.List.{List, [], ◌∷◌, ◌++◌, append_assoc, append-nil}
use Prim.Native.Nat.{ℕ, ◌+◌, ◌/◌, ◌≤◌, ◌<◌}
use native.Mathlib.Omega.{arith}
use Rattle.std.proofs.Math.ListN.{length}
use Rattle.std.specs.Borrow.{Bor, MutBor}
use Rattle.std.specs.Float.{Float}
use Rattle.laws.specs.Tests.{right}
use Rattle.paper.specs.declared.Weighing.{Weighing}
use Rattle.paper.specs.declared.Paired.{Paired}
use Rattle.paper.specs.declared.Indicated.{Indicated}
use Rattle.paper.specs.declared.Sheet.{Sheet}
use Rattle.paper.specs.declared.Change.{Change}
use Rattle.paper.specs.declared.Seat.{Seat}
use Rattle.paper.specs.declared.Placard.{Placard}
use Rattle.paper.specs.declared.Refusal.{Refusal}
use Rattle.paper.specs.Numbers.{number_in as answer_number}
use Rattle.paper.specs.declared.Entry.{Entry}
use Rattle.paper.specs.Indicator.{sent_by}
use Rattle.paper.specs.Journal as journal
use Rattle.paper.specs.Journal.{Call, journal_by, numbers_by}
use Rattle.paper.specs.Record.{sheet_of, weighing_stands, sheet_stands}
use Rattle.paper.specs.Rows.{row_count}
use Rattle.paper.specs.Placard.{text_length}
use Rattle.paper.specs.Refusals.{placard_too_long}
use Rattle.paper.specs.Answers.{placard_refused, placard_answer}
use Rattle.format.specs.Files.{file_length}
use Rattle.front.specs.Front.{held_in}
use Rattle.lent.specs.Lent.{lent_file, lent_call, lent_read, number_in, journal_in, numbers_in}
use Rattle.lent.proofs.Answers.{file_put}
use Rattle.nodhulika.specs.Exported.{answer_length, counts_over, placard_into}
use Rattle.nodhulika.proofs.nodhulika_fresh.Reads as fresh
use Rattle.nodhulika.proofs.nodhulika_weigh.Reads as weigh
use Rattle.nodhulika.proofs.nodhulika_weigh_paired.Reads as pair
use Rattle.nodhulika.proofs.nodhulika_weigh_indicated.Reads as indicate
use Rattle.nodhulika.proofs.nodhulika_sheet.Reads as sheet
use Rattle.nodhulika.proofs.nodhulika_change.Reads as change
use Rattle.nodhulika.proofs.nodhulika_seat.Reads as seat
use Rattle.nodhulika.proofs.nodhulika_undo.Reads as undo
use Rattle.nodhulika.proofs.nodhulika_read.Reads as read
use Rattle.nodhulika.proofs.nodhulika_placard.Reads as placard
use Rattle.claim.specs.Buffers.{Holds, Leaves, fresh_leaves, call_leaves, read_leaves}
use Rattle.claim.specs.Calls.{journal-more, numbers_more}
use Rattle.claim.specs.Endings.{Ending, refused, printed, ending}
use Rattle.claim.specs.Demand3.{Demand3}
use Rattle.claim.specs.RecordCalls.{slice_of, buffer_of, indicated}

-- the arguments of a call behind its buffer, which it leaves as they are
abbrev pub weighing_args : Weighing → ℕ × (ℕ × (ℕ × (ℤ × (ℕ × (ℕ × Unit {0})))))
weighing_args w = (w.m, (w.p, (w.q, (w.a, (w.b, (w.n, tt))))))

abbrev pub paired_args : Paired → ℕ × (ℕ × (ℕ × (ℕ × (ℕ × (ℤ × (ℕ × (ℕ × Unit {0})))))))
paired_args x = (x.m, (x.p, (x.q, (x.p2, (x.q2, (x.a, (x.b, (x.n, tt))))))))

-- an indicator's messages are lent: of them as a call leaves them the trace asks nothing
abbrev pub indicated_args : Indicated → ℕ × (Bor (List ℕ) × (Float × (Float × (Bor (List ℕ) × (Float × (Float × (Bor (List ℕ) × (Float × (Float × (Bor (List ℕ) × (Float × (Float × (ℤ × (ℕ × (ℕ × Unit {0})))))))))))))))
indicated_args x =
    (x.m, (x.p.bytes, (x.p.cell.rated, (x.p.cell.zero, (x.q.bytes, (x.q.cell.rated, (x.q.cell.zero, (x.p2.bytes, (x.p2.cell.rated, (x.p2.cell.zero, (x.q2.bytes, (x.q2.cell.rated, (x.q2.cell.zero, (x.a, (x.b, (x.n, tt))))))))))))))))

abbrev pub sheet_args : Sheet → ℤ × (ℤ × (ℕ × (ℕ × (ℕ × (ℤ × (ℕ × (ℕ × (ℕ × (ℤ × (ℕ × (ℕ × (ℤ × (ℕ × (ℕ × Unit {0}))))))))))))))
sheet_args s =
    (s.fwd, (s.aft, (s.dry, (s.wet, (s.nlp, (s.front.arm, (s.least, (s.front.most, (s.front.step, (s.rear.arm, (s.rear.most, (s.rear.step, (s.water.arm, (s.water.most, (s.water.step, tt)))))))))))))))

abbrev pub change_args : Change → ℤ × (ℤ × (ℕ × Unit {0}))
change_args x = (x.c, (x.arm, (x.flag, tt)))

abbrev pub seat_args : Seat → ℤ × (ℤ × Unit {0})
seat_args f = (f.lower, (f.higher, tt))

-- A list of calls as it runs on a buffer of n bytes: the calls in their order, the buffer as the last one left it, the number
-- that each answered. A fresh record comes first, on any buffer that has room for it; each later call gets the buffer as it was
-- left. Refused calls are calls like the others.
pub data Trace : ℕ → List Call → List ℕ → List ℕ → Type 0 where
  from_fresh : (κs : _) (o o' : MutBor (List ℕ)) → fresh.Post κs (o, tt) 0 (o', tt) → Trace (length o.now) [] o'.now []
  then_weigh : {n : ℕ} {calls : List Call} {buffer answers : List ℕ} → Trace n calls buffer answers
      → (w : Weighing) (κs : _) (o o' : MutBor (List ℕ)) (k : ℕ) → o.now ≡ buffer → weigh.Post κs (o, weighing_args w) k (o', weighing_args w) → Trace n (calls ++ journal.weigh w ∷ []) o'.now (answers ++ k ∷ [])
  then_pair : {n : ℕ} {calls : List Call} {buffer answers : List ℕ} → Trace n calls buffer answers
      → (x : Paired) (κs : _) (o o' : MutBor (List ℕ)) (k : ℕ) → o.now ≡ buffer → pair.Post κs (o, paired_args x) k (o', paired_args x) → Trace n (calls ++ journal.pair x ∷ []) o'.now (answers ++ k ∷ [])
  then_indicate : {n : ℕ} {calls : List Call} {buffer answers : List ℕ} → Trace n calls buffer answers
      → (x x' : Indicated) (κs : _) (o o' : MutBor (List ℕ)) (k : ℕ) → o.now ≡ buffer → indicate.Post κs (o, indicated_args x) k (o', indicated_args x') → Trace n (calls ++ journal.indicate (sent_by x) ∷ []) o'.now (answers ++ k ∷ [])
  then_sheet : {n : ℕ} {calls : List Call} {buffer answers : List ℕ} → Trace n calls buffer answers
      → (s : Sheet) (κs : _) (o o' : MutBor (List ℕ)) (k : ℕ) → o.now ≡ buffer → sheet.Post κs (o, sheet_args s) k (o', sheet_args s) → Trace n (calls ++ journal.install s ∷ []) o'.now (answers ++ k ∷ [])
  then_change : {n : ℕ} {calls : List Call} {buffer answers : List ℕ} → Trace n calls buffer answers
      → (x : Change) (κs : _) (o o' : MutBor (List ℕ)) (k : ℕ) → o.now ≡ buffer → change.Post κs (o, change_args x) k (o', change_args x) → Trace n (calls ++ journal.change x ∷ []) o'.now (answers ++ k ∷ [])
  then_seat : {n : ℕ} {calls : List Call} {buffer answers : List ℕ} → Trace n calls buffer answers
      → (f : Seat) (κs : _) (o o' : MutBor (List ℕ)) (k : ℕ) → o.now ≡ buffer → seat.Post κs (o, seat_args f) k (o', seat_args f) → Trace n (calls ++ journal.seat f ∷ []) o'.now (answers ++ k ∷ [])
  then_undo : {n : ℕ} {calls : List Call} {buffer answers : List ℕ} → Trace n calls buffer answers
      → (κs : _) (o o' : MutBor (List ℕ)) (k : ℕ) → o.now ≡ buffer → undo.Post κs (o, tt) k (o', tt) → Trace n (calls ++ journal.undo ∷ []) o'.now (answers ++ k ∷ [])
  then_read : {n : ℕ} {calls : List Call} {buffer answers : List ℕ} → Trace n calls buffer answers
      → (κs : _) (o o' : MutBor (List ℕ)) (i i' : Bor (List ℕ)) (k : ℕ) → o.now ≡ buffer → read.Post κs (o, (i, tt)) k (o', (i', tt)) → Trace n (calls ++ journal.read i.now ∷ []) o'.now (answers ++ k ∷ [])

-- ---- what such a list leaves

-- the buffer holds the journal of the calls, and the numbers answered are the journal's
pub record Follows (n : ℕ) (calls : List Call) (buffer answers : List ℕ) : Type 0 where
  pub holds : Holds n (journal_in n calls) buffer
  pub numbers : answers ≡ numbers_in n calls

none_yet : (s t : List ℕ) → (0, t) ≡ lent_file [] s → Follows (length s) [] t []
unfolding journal_in numbers_in journal_by numbers_by
none_yet s t e =
    record { holds = rw (ap (λ (p : ℕ × List ℕ). p.1) e) (fresh_leaves s (sym (ap (λ (p : ℕ × List ℕ). p.0) e))); numbers = refl }

one_more : {n : ℕ} {calls : List Call} {buffer answers : List ℕ} (x : Call) (k : ℕ) (left : List ℕ) (p : ℕ × List ℕ) → Follows n calls buffer answers → (k, left) ≡ p → Leaves n p (number_in n (journal_in n calls) x) (journal.after_by (number_in n) (journal_in n calls) x) → Follows n (calls ++ x ∷ []) left (answers ++ k ∷ [])
unfolding journal_in numbers_in
one_more {n} {calls} {buffer} {answers} x k left p f e l =
    let number : k ≡ number_in n (journal_in n calls) x = ap (λ (q : ℕ × List ℕ). q.0) e ∙ l.0 in
    record {
      holds = rw (journal-more (number_in n) [] calls x, ap (λ (q : ℕ × List ℕ). q.1) e) l.1;
      numbers = rw (number, f.numbers) (sym (numbers_more (number_in n) [] calls x));
    }

-- a weighing of any sort, a sheet, a change, a seat or taking back
called : {n : ℕ} {calls : List Call} {buffer answers : List ℕ} (x : Call) (k : ℕ) (before left : List ℕ) → Follows n calls buffer answers → before ≡ buffer → (k, left) ≡ lent_call x before → Follows n (calls ++ x ∷ []) left (answers ++ k ∷ [])
called {n} {calls} {buffer} x k before left f b e =
    one_more x k left (lent_call x buffer) f (rw b at e) (call_leaves n (journal_in n calls) buffer f.holds x)

read_back : {n : ℕ} {calls : List Call} {buffer answers : List ℕ} (xs : List ℕ) (k : ℕ) (before left : List ℕ) → Follows n calls buffer answers → before ≡ buffer → (k, left) ≡ lent_read xs before → Follows n (calls ++ journal.read xs ∷ []) left (answers ++ k ∷ [])
read_back {n} {calls} {buffer} xs k before left f b e =
    one_more (journal.read xs) k left (lent_read xs buffer) f (rw b at e) (read_leaves n (journal_in n calls) buffer f.holds xs)

pub follows : {n : ℕ} {calls : List Call} {buffer answers : List ℕ} → Trace n calls buffer answers → Follows n calls buffer answers
unfolding sent_by
follows (from_fresh κs o o' h) = none_yet o.now o'.now h
follows (then_weigh t w κs o o' k b h) = called (journal.weigh w) k o.now o'.now (follows t) b h
follows (then_pair t x κs o o' k b h) = called (journal.pair x) k o.now o'.now (follows t) b h
follows (then_indicate t x x' κs o o' k b h) = called (journal.indicate (sent_by x)) k o.now o'.now (follows t) b h
follows (then_sheet t s κs o o' k b h) = called (journal.install s) k o.now o'.now (follows t) b h
follows (then_change t x κs o o' k b h) = called (journal.change x) k o.now o'.now (follows t) b h
follows (then_seat t f κs o o' k b h) = called (journal.seat f) k o.now o'.now (follows t) b h
follows (then_undo t κs o o' k b h) = called journal.undo k o.now o'.now (follows t) b h
follows (then_read t κs o o' i i' k b h) = read_back i.now k o.now o'.now (follows t) b h

-- ---- the demand

-- every sheet has a row, so a buffer of no bytes holds no placard and stays as it is
some_rows : (s : Sheet) → 0 < text_length s
unfolding text_length row_count
some_rows s = omega (arith, mul-pos {m = s.rear.most / s.rear.step + 1} {n = s.water.most / s.water.step + 1} (omega arith) (omega arith))

pub nothing_left : (es : List Entry) → [] ≡ (placard_answer es []).1
unfolding placard_too_long placard_refused
nothing_left es = by (ending es [])
  where
    by : Ending es [] → [] ≡ (placard_answer es []).1
    by (refused n h number f q) = sym (ap (λ p. p.1) q)
    by (printed s b e w g q) =
        let fits = rw e at (right (weighing_stands es && sheet_stands es) (not (placard_too_long (sheet_of es) 0)) g) in
        absurd (true≢false (sym fits ∙ rw (lt-ltb 0 (text_length s) (some_rows s))))

-- The library's placard call has the placard in one buffer and its counts, three numbers, in another. With room for the counts the
-- demand holds of the placard's buffer, and the counts are those of the answer that it speaks of; without it the call is as one
-- with no byte for the placard, and both buffers are as lent.
pub record LibraryDemand3 (n : ℕ) (calls : List Call) (answers lent counts : List ℕ) (number : ℕ) (left counts_left : List ℕ) : Type 0 where
  pub answer : Result Placard Refusal
  pub its_number : number ≡ answer_number answer
  pub with-room : answer_length ≤ length counts → Demand3 (numbers_in n calls) (journal_in n calls) answers lent answer left × (counts_left ≡ counts_over answer counts)
  pub without : length counts < answer_length → Demand3 (numbers_in n calls) (journal_in n calls) answers [] answer [] × (left ≡ lent) × (counts_left ≡ counts)

-- ---- it is not empty

-- a list of calls as it can run on a buffer, and a placard call after it
pub record Run (calls : List Call) (first lent counts : List ℕ) : Type 0 where
  pub buffer : Bor (List ℕ)
  pub answers : List ℕ
  pub trace : Trace (length first) calls buffer.now answers
  pub out : MutBor (List ℕ)
  pub as_lent : out.now ≡ lent
  pub counted : MutBor (List ℕ)
  pub counts_lent : counted.now ≡ counts
  pub out_left : MutBor (List ℕ)
  pub counts_left : MutBor (List ℕ)
  pub number : ℕ
  pub call : placard.Post ([], ([], ([], tt))) (buffer, (out, (counted, tt))) number (buffer, (out_left, (counts_left, tt)))

fresh_fits : (s : List ℕ) → 6 ≤ length s → (0, (lent_file [] s).1) ≡ lent_file [] s
fresh_fits s h = rw (file_put [] s (omega (arith, file_length [])))

-- one call more can run, and has as its buffer what was left
abbrev after : Call → List ℕ → ℕ × List ℕ
after (journal.weigh w) s = lent_call (journal.weigh w) s
after (journal.pair x) s = lent_call (journal.pair x) s
after (journal.indicate x) s = lent_call (journal.indicate x) s
after (journal.install t) s = lent_call (journal.install t) s
after (journal.change x) s = lent_call (journal.change x) s
after (journal.seat f) s = lent_call (journal.seat f) s
after journal.undo s = lent_call journal.undo s
after (journal.read xs) s = lent_read xs s

next : {n : ℕ} {calls : List Call} {buffer answers : List ℕ} (x : Call) → Trace n calls buffer answers → Trace n (calls ++ x ∷ []) (after x buffer).1 (answers ++ (after x buffer).0 ∷ [])
unfolding sent_by
next {buffer = s} (journal.weigh w) t = then_weigh t w ([], tt) (buffer_of s) (buffer_of (after (journal.weigh w) s).1) _ refl refl
next {buffer = s} (journal.pair x) t = then_pair t x ([], tt) (buffer_of s) (buffer_of (after (journal.pair x) s).1) _ refl refl
next {buffer = s} (journal.indicate x) t = then_indicate t (indicated x) (indicated x) ([], ([], ([], ([], ([], tt))))) (buffer_of s) (buffer_of (after (journal.indicate x) s).1) _ refl refl
next {buffer = s} (journal.install u) t = then_sheet t u ([], tt) (buffer_of s) (buffer_of (after (journal.install u) s).1) _ refl refl
next {buffer = s} (journal.change x) t = then_change t x ([], tt) (buffer_of s) (buffer_of (after (journal.change x) s).1) _ refl refl
next {buffer = s} (journal.seat f) t = then_seat t f ([], tt) (buffer_of s) (buffer_of (after (journal.seat f) s).1) _ refl refl
next {buffer = s} journal.undo t = then_undo t ([], tt) (buffer_of s) (buffer_of (after journal.undo s).1) _ refl refl
next {buffer = s} (journal.read xs) t = then_read t ([], ([], tt)) (buffer_of s) (buffer_of (after (journal.read xs) s).1) (slice_of xs) (slice_of xs) _ refl refl

runs_on : {buffer answers : List ℕ} (calls more : List Call) (first lent counts : List ℕ) → Trace (length first) calls buffer answers → Run (calls ++ more) first lent counts
runs_on {buffer} {answers} calls [] first lent counts t =
    rw (append-nil calls)
    (record {
      buffer = slice_of buffer;
      answers = answers;
      trace = t;
      out = buffer_of lent;
      as_lent = refl;
      counted = buffer_of counts;
      counts_lent = refl;
      out_left = buffer_of (placard_into (held_in buffer) lent counts).1;
      counts_left = buffer_of (placard_into (held_in buffer) lent counts).2;
      number = (placard_into (held_in buffer) lent counts).0;
      call = refl;
    })
runs_on {buffer = buffer} calls (x ∷ more) first lent counts t =
    rw (append_assoc calls (x ∷ []) more) at (runs_on {buffer = (after x buffer).1} (calls ++ x ∷ []) more first lent counts (next x t))

-- Every list of calls has a trace on every buffer that a fresh record fits, whatever their arguments, and a placard call after it,
-- whatever its buffers.
pub every_list_runs : (calls : List Call) (first lent counts : List ℕ) → 6 ≤ length first → Run calls first lent counts
every_list_runs calls first lent counts h =
    runs_on [] calls first lent counts (from_fresh ([], tt) (buffer_of first) (buffer_of (lent_file [] first).1) (fresh_fits first h))
