-- Demand 3 of the library to link, for every list of its calls: the buffer holds the journal, so that what the placard function
-- promises of the buffer is the demand; by whether there is room for the counts. Assumes nothing.
use Rattle.std.specs.Prelude.{◌≡◌, Result}
use Rattle.std.proofs.Math.Path.{refl, ap}
use Rattle.std.proofs.Common.{lt-ltb, le-ltb}
use mathlib.Core.List.{List, []}
use Rattle.std.proofs.Math.Option.{some}
use Prim.Native.Nat.{ℕ, ◌<◌}
use Rattle.std.proofs.Math.Decide.{dec_le}
use native.Mathlib.Omega.{arith}
use Rattle.std.proofs.Math.ListN.{length}
use Rattle.std.specs.Borrow.{Bor, MutBor}
use Rattle.paper.specs.declared.Placard.{Placard}
use Rattle.paper.specs.declared.Refusal.{Refusal}
use Rattle.paper.specs.Journal.{Call}
use Rattle.paper.specs.Answers.{placard_answer}
use Rattle.front.specs.Front.{placard_for}
use Rattle.lent.specs.Lent.{journal_in, numbers_in}
use Rattle.front.proofs.Fronts.{held_accepted}
use Rattle.nodhulika.specs.Exported.{answer_length, placard_into}
use Rattle.nodhulika.proofs.nodhulika_placard.Reads as placard
use Rattle.claim.specs.Demand3.{Demand3, demanded}
use Rattle.claim.specs.LibraryCalls.{Trace, Follows, follows, nothing_left, LibraryDemand3}

module _ (n : ℕ) (calls : List Call) (buffer answers : List ℕ) (f : Follows n calls buffer answers) (lent counts : List ℕ) (number : ℕ) (left counts_left : List ℕ) where
  demanded_of : (out rest : List ℕ) (a : Result Placard Refusal) → a ≡ (placard_answer (journal_in n calls) out).0 → rest ≡ (placard_answer (journal_in n calls) out).1 → Demand3 (numbers_in n calls) (journal_in n calls) answers out a rest
  demanded_of out rest a = demanded (numbers_in n calls) (journal_in n calls) (held_accepted buffer (journal_in n calls) f.holds.list) answers out a rest f.numbers

  by_counts : (number, left, counts_left) ≡ placard_into (some (journal_in n calls)) lent counts → LibraryDemand3 n calls answers lent counts number left counts_left
  unfolding placard_into placard_for
  by_counts e =
      let es = journal_in n calls in
      elim (dec_le answer_length (length counts)) as (λ d. LibraryDemand3 n calls answers lent counts number left counts_left) [
        | yes h ↦
            let p = rw (le-ltb (length counts) answer_length h) at e in
            record {
              answer = (placard_answer es lent).0;
              its_number = ap (λ (q : ℕ × List ℕ × List ℕ). q.0) p;
              with-room = λ k. (demanded_of lent left (placard_answer es lent).0 refl (ap (λ (q : ℕ × List ℕ × List ℕ). q.1) p), ap (λ (q : ℕ × List ℕ × List ℕ). q.2) p);
              without = λ k. absurd (omega arith);
            }
        | no h ↦
            let short : length counts < answer_length = omega arith in
            let p = rw (lt-ltb (length counts) answer_length short) at e in
            record {
              answer = (placard_answer es []).0;
              its_number = ap (λ (q : ℕ × List ℕ × List ℕ). q.0) p;
              with-room = λ k. absurd (omega arith);
              without = λ k. (demanded_of [] [] (placard_answer es []).0 refl (nothing_left es), ap (λ (q : ℕ × List ℕ × List ℕ). q.1) p, ap (λ (q : ℕ × List ℕ × List ℕ). q.2) p);
            }
      ]

-- For every list of calls, however it ran, and every placard call after it, on buffers of any length and content.
pub demand_3 : {n : ℕ} {calls : List Call} {buffer answers : List ℕ} → Trace n calls buffer answers
    → (κs : _) (i i' : Bor (List ℕ)) (o o' c c' : MutBor (List ℕ)) (k : ℕ) → i.now ≡ buffer → placard.Post κs (i, (o, (c, tt))) k (i', (o', (c', tt)))
    → LibraryDemand3 n calls answers o.now c.now k o'.now c'.now
demand_3 {n} {calls} {buffer} {answers} t κs i i' o o' c c' k b call =
    let f = follows t in
    by_counts n calls buffer answers f o.now c.now k o'.now c'.now (rw (b, f.holds.list) at call)
