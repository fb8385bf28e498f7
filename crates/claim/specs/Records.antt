-- Records that lists of calls give: each is the record of its journal, so that what the round trips say of such records holds
-- of it. Assumes nothing.
use Rattle.std.specs.Prelude.{◌≡◌, List, ℕ, ◌≤◌, length, take, Result, Ok}
use Rattle.std.proofs.Common.{ap, ◌∙◌}
use Rattle.std.specs.Borrow.{Bor, MutBor}
use Rattle.paper.specs.declared.Refusal.{Refusal}
use Rattle.paper.specs.File.{file_bytes}
use Rattle.paper.specs.Journal.{Call, journal}
use Rattle.record.specs.declared.Record.{Record}
use Rattle.record.specs.Held.{record_of, held_by}
use Rattle.record.proofs.Calls.{Answer}
use Rattle.file.proofs.write.Reads as write
use Rattle.file.proofs.read.Reads as read
use Rattle.file.proofs.RoundTrips.{written_then_read}
use Rattle.claim.specs.RecordCalls.{Trace, follows}

-- a list of calls leaves the record of its journal
pub journal_record : {calls : List Call} {r : Record} {answers : List ℕ} → Trace calls r answers → r ≡ record_of (journal calls)
journal_record t = let f = follows t in f.made ∙ ap record_of f.list

-- written into any buffer that holds it and read back from those bytes, it is the same record
pub saved_and_read : {calls : List Call} {r : Record} {answers : List ℕ} → Trace calls r answers
    → (κs : _) (b b' : Bor Record) (o o' : MutBor (List ℕ)) (a : Result ℕ Refusal) → b.now ≡ r → write.Post κs (b, (o, tt)) a (b', (o', tt)) → length (file_bytes (held_by r)) ≤ length o.now
    → (λs : _) (q q' : MutBor Record) (i i' : Bor (List ℕ)) (k : Result (Unit {0}) Refusal) → read.Post λs (q, (i, tt)) k (q', (i', tt)) → ((n : ℕ) → a ≡ Ok n → i.now ≡ take n o'.now)
    → ◌≡◌ {A = Answer} (k, q'.now) (Ok tt, r)
saved_and_read {r = r} t = written_then_read r (follows t).made
