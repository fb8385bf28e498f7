-- Demand 3 of the calls on a record: every list of them as it runs, what it leaves, and that every list runs. The claim about
-- them and a placard asked for after them is demand_3 (crates/claim/proofs: RecordCalls).
--
-- The hypotheses are the calls' own promises and nothing else: `weigh.Post` is what the contract of `Record::weigh` in
-- crates/record/src/lib.rt promises of one call (its arguments, its answer, the arguments as it leaves them), and so with the
-- others; `q.now` is the record as a call finds it, `q'.now` as it leaves it, `i.now` the bytes of a slice. The conclusion is
-- `Demand3` of the journal that the calls' arguments alone give (crates/paper/specs: Journal). Assumes nothing.
use Rattle.std.specs.Prelude.{◌≡◌, refl, List, [], ◌∷◌, ◌++◌, ℕ, Result}
use Rattle.std.proofs.Common.{append_assoc, append-nil}
use Rattle.std.specs.Borrow.{Bor, MutBor}
use Rattle.paper.specs.declared.Weighing.{Weighing}
use Rattle.paper.specs.declared.Paired.{Paired}
use Rattle.paper.specs.declared.Message.{Message}
use Rattle.paper.specs.declared.Indicated.{Indicated}
use Rattle.paper.specs.declared.Sheet.{Sheet}
use Rattle.paper.specs.declared.Change.{Change}
use Rattle.paper.specs.declared.Seat.{Seat}
use Rattle.paper.specs.declared.Placard.{Placard}
use Rattle.paper.specs.declared.Refusal.{Refusal}
use Rattle.paper.specs.Numbers.{number_in}
use Rattle.paper.specs.Indicator.{Sent, SentWeighing, sent_by}
use Rattle.paper.specs.Journal as journal
use Rattle.paper.specs.Journal.{Call}
use Rattle.paper.specs.Answers.{placard_answer}
use Rattle.record.specs.declared.Record.{Record}
use Rattle.record.specs.Held.{record_of, held_by, answered}
use Rattle.record.proofs.Record.fresh.Reads as fresh
use Rattle.record.proofs.Record.weigh.Reads as weigh
use Rattle.record.proofs.Record.weigh_paired.Reads as pair
use Rattle.record.proofs.Record.weigh_indicated.Reads as indicate
use Rattle.record.proofs.Record.install.Reads as install
use Rattle.record.proofs.Record.change.Reads as change
use Rattle.record.proofs.Record.adjust_seat.Reads as seat
use Rattle.record.proofs.Record.undo.Reads as undo
use Rattle.file.proofs.read.Reads as read
use Rattle.plate.proofs.placard.Reads as placard
use Rattle.claim.specs.Calls.{Follows, none_yet, one_more}

-- A list of calls as it runs: the calls in their order, the record that the last one left, the number that each answered.
-- The first gets a fresh record, each later one the record as the one before it left it; refused calls are calls like the others.
pub data Trace : List Call → Record → List ℕ → Type 0 where
  from_fresh : (r : Record) → fresh.Post tt tt r tt → Trace [] r []
  then_weigh : {calls : List Call} {r : Record} {answers : List ℕ} → Trace calls r answers
      → (w : Weighing) (κs : _) (q q' : MutBor Record) (k : Result (Unit {0}) Refusal) → q.now ≡ r → weigh.Post κs (q, (w, tt)) k (q', (w, tt)) → Trace (calls ++ journal.weigh w ∷ []) q'.now (answers ++ number_in k ∷ [])
  then_pair : {calls : List Call} {r : Record} {answers : List ℕ} → Trace calls r answers
      → (x : Paired) (κs : _) (q q' : MutBor Record) (k : Result (Unit {0}) Refusal) → q.now ≡ r → pair.Post κs (q, (x, tt)) k (q', (x, tt)) → Trace (calls ++ journal.pair x ∷ []) q'.now (answers ++ number_in k ∷ [])
  then_indicate : {calls : List Call} {r : Record} {answers : List ℕ} → Trace calls r answers
      → (x x' : Indicated) (κs : _) (q q' : MutBor Record) (k : Result (Unit {0}) Refusal) → q.now ≡ r → indicate.Post κs (q, (x, tt)) k (q', (x', tt)) → Trace (calls ++ journal.indicate (sent_by x) ∷ []) q'.now (answers ++ number_in k ∷ [])
  then_install : {calls : List Call} {r : Record} {answers : List ℕ} → Trace calls r answers
      → (s : Sheet) (κs : _) (q q' : MutBor Record) (k : Result (Unit {0}) Refusal) → q.now ≡ r → install.Post κs (q, (s, tt)) k (q', (s, tt)) → Trace (calls ++ journal.install s ∷ []) q'.now (answers ++ number_in k ∷ [])
  then_change : {calls : List Call} {r : Record} {answers : List ℕ} → Trace calls r answers
      → (x : Change) (κs : _) (q q' : MutBor Record) (k : Result (Unit {0}) Refusal) → q.now ≡ r → change.Post κs (q, (x, tt)) k (q', (x, tt)) → Trace (calls ++ journal.change x ∷ []) q'.now (answers ++ number_in k ∷ [])
  then_seat : {calls : List Call} {r : Record} {answers : List ℕ} → Trace calls r answers
      → (f : Seat) (κs : _) (q q' : MutBor Record) (k : Result (Unit {0}) Refusal) → q.now ≡ r → seat.Post κs (q, (f, tt)) k (q', (f, tt)) → Trace (calls ++ journal.seat f ∷ []) q'.now (answers ++ number_in k ∷ [])
  then_undo : {calls : List Call} {r : Record} {answers : List ℕ} → Trace calls r answers
      → (κs : _) (q q' : MutBor Record) (k : Result (Unit {0}) Refusal) → q.now ≡ r → undo.Post κs (q, tt) k (q', tt) → Trace (calls ++ journal.undo ∷ []) q'.now (answers ++ number_in k ∷ [])
  then_read : {calls : List Call} {r : Record} {answers : List ℕ} → Trace calls r answers
      → (κs : _) (q q' : MutBor Record) (i i' : Bor (List ℕ)) (k : Result (Unit {0}) Refusal) → q.now ≡ r → read.Post κs (q, (i, tt)) k (q', (i', tt)) → Trace (calls ++ journal.read i.now ∷ []) q'.now (answers ++ number_in k ∷ [])

pub follows : {calls : List Call} {r : Record} {answers : List ℕ} → Trace calls r answers → Follows calls r answers
follows (from_fresh r h) = none_yet r h
follows (then_weigh t w κs q q' k b h) = one_more (journal.weigh w) q.now q'.now k (follows t) b h
follows (then_pair t x κs q q' k b h) = one_more (journal.pair x) q.now q'.now k (follows t) b h
follows (then_indicate t x x' κs q q' k b h) = one_more (journal.indicate (sent_by x)) q.now q'.now k (follows t) b h
follows (then_install t s κs q q' k b h) = one_more (journal.install s) q.now q'.now k (follows t) b h
follows (then_change t x κs q q' k b h) = one_more (journal.change x) q.now q'.now k (follows t) b h
follows (then_seat t f κs q q' k b h) = one_more (journal.seat f) q.now q'.now k (follows t) b h
follows (then_undo t κs q q' k b h) = one_more journal.undo q.now q'.now k (follows t) b h
follows (then_read t κs q q' i i' k b h) = one_more (journal.read i.now) q.now q'.now k (follows t) b h

-- ---- it is not empty

-- a list of calls as it can run, and a placard call after it on a buffer
pub record Run (calls : List Call) (lent : List ℕ) : Type 0 where
  pub last : Record
  pub answers : List ℕ
  pub trace : Trace calls last answers
  pub held : Bor Record
  pub as_left : held.now ≡ last
  pub buffer : MutBor (List ℕ)
  pub as_lent : buffer.now ≡ lent
  pub left : MutBor (List ℕ)
  pub answer : Result Placard Refusal
  pub call : placard.Post ([], ([], tt)) (held, (buffer, tt)) answer (held, (left, tt))

-- something lent to be read
abbrev pub lent_of : {A : Type 0} → A → Bor A
lent_of x = record { ref_ptr = (0, 0); now = x }

-- a slice of some numbers
abbrev pub slice_of : List ℕ → Bor (List ℕ)
slice_of xs = record { ref_ptr = (0, 0); now = xs }

-- the same, lent to be written
abbrev pub buffer_of : List ℕ → MutBor (List ℕ)
buffer_of xs = record { ref_ptr = (0, 0); ghost_name = 0; now = xs }

abbrev pub record_lent : Record → MutBor Record
record_lent r = record { ref_ptr = (0, 0); ghost_name = 0; now = r }

-- an indicator's weighing as it is lent to a call
abbrev lent_sent : Sent → Message
lent_sent s = record { bytes = slice_of s.bytes; cell = s.cell }

abbrev pub indicated : SentWeighing → Indicated
indicated x =
    record {
      m = x.m;
      p = lent_sent x.p;
      q = lent_sent x.q;
      p2 = lent_sent x.p2;
      q2 = lent_sent x.q2;
      a = x.a;
      b = x.b;
      n = x.n;
    }

-- one call more can run
next : {calls : List Call} {r : Record} {answers : List ℕ} (x : Call) → Trace calls r answers → Trace (calls ++ x ∷ []) (answered r x).1 (answers ++ number_in (answered r x).0 ∷ [])
unfolding sent_by
next {r = r} (journal.weigh w) t = then_weigh t w ([], tt) (record_lent r) (record_lent (answered r (journal.weigh w)).1) (answered r (journal.weigh w)).0 refl refl
next {r = r} (journal.pair x) t = then_pair t x ([], tt) (record_lent r) (record_lent (answered r (journal.pair x)).1) (answered r (journal.pair x)).0 refl refl
next {r = r} (journal.indicate x) t = then_indicate t (indicated x) (indicated x) ([], ([], tt)) (record_lent r) (record_lent (answered r (journal.indicate x)).1) (answered r (journal.indicate x)).0 refl refl
next {r = r} (journal.install s) t = then_install t s ([], tt) (record_lent r) (record_lent (answered r (journal.install s)).1) (answered r (journal.install s)).0 refl refl
next {r = r} (journal.change x) t = then_change t x ([], tt) (record_lent r) (record_lent (answered r (journal.change x)).1) (answered r (journal.change x)).0 refl refl
next {r = r} (journal.seat f) t = then_seat t f ([], tt) (record_lent r) (record_lent (answered r (journal.seat f)).1) (answered r (journal.seat f)).0 refl refl
next {r = r} journal.undo t = then_undo t ([], tt) (record_lent r) (record_lent (answered r journal.undo).1) (answered r journal.undo).0 refl refl
next {r = r} (journal.read xs) t = then_read t ([], ([], tt)) (record_lent r) (record_lent (answered r (journal.read xs)).1) (slice_of xs) (slice_of xs) (answered r (journal.read xs)).0 refl refl

runs_on : {r : Record} {answers : List ℕ} (calls more : List Call) (lent : List ℕ) → Trace calls r answers → Run (calls ++ more) lent
runs_on {r} {answers} calls [] lent t =
    rw (append-nil calls)
    (record {
      last = r;
      answers = answers;
      trace = t;
      held = lent_of r;
      as_left = refl;
      buffer = buffer_of lent;
      as_lent = refl;
      left = buffer_of (placard_answer (held_by r) lent).1;
      answer = (placard_answer (held_by r) lent).0;
      call = refl;
    })
runs_on {r = r} calls (x ∷ more) lent t =
    rw (append_assoc calls (x ∷ []) more) at (runs_on {r = (answered r x).1} (calls ++ x ∷ []) more lent (next x t))

-- Every list of calls has a trace, whatever their arguments, and a placard call after it, whatever the buffer.
pub every_list_runs : (calls : List Call) (lent : List ℕ) → Run calls lent
every_list_runs calls lent = runs_on [] calls lent (from_fresh (record_of []) refl)
