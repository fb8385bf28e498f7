-- Demand 3 of the calls on a record, for every list of them: its trace leaves the record of its journal, and what the placard call
-- promises of that record is the demand. Assumes nothing.
use Rattle.std.specs.Prelude.{◌≡◌, List, ℕ, Result}
use Rattle.std.proofs.Common.{ap}
use Rattle.std.specs.Borrow.{Bor, MutBor}
use Rattle.paper.specs.declared.Placard.{Placard}
use Rattle.paper.specs.declared.Refusal.{Refusal}
use Rattle.paper.specs.Answers.{placard_answer}
use Rattle.paper.specs.Journal.{Call, journal, numbers}
use Rattle.record.specs.declared.Record.{Record}
use Rattle.record.proofs.Replays.{held_accepted}
use Rattle.plate.proofs.placard.Reads as placard
use Rattle.claim.specs.Demand3.{Demand3, demanded}
use Rattle.claim.specs.RecordCalls.{Trace, follows}

-- For every list of calls, however it ran, and every placard call after it, on a buffer of any length and content.
pub demand_3 : {calls : List Call} {r : Record} {answers : List ℕ} → Trace calls r answers
    → (κs : _) (b b' : Bor Record) (o o' : MutBor (List ℕ)) (a : Result Placard Refusal) → b.now ≡ r → placard.Post κs (b, (o, tt)) a (b', (o', tt))
    → Demand3 (numbers calls) (journal calls) answers o.now a o'.now
demand_3 {calls} {r} {answers} t κs b b' o o' a same call =
    let f = follows t in
    let given : ◌≡◌ {A = Result Placard Refusal × List ℕ} (a, o'.now) (placard_answer (journal calls) o.now) = rw (same, f.list) at call in
    demanded (numbers calls) (journal calls) (rw f.list at (held_accepted r)) answers o.now a o'.now f.numbers
    (ap (λ (x : Result Placard Refusal × List ℕ). x.0) given)
    (ap (λ (x : Result Placard Refusal × List ℕ). x.1) given)
