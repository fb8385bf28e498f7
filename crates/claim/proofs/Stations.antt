-- Equipment by station over the calls' own promises: what the call answers after a list of calls, and that the order of the changes
-- from a weighing to the next or the end makes no difference to plate, centre of gravity and equipment. The relation of the two
-- lists is `SameButOrder` (crates/paper/specs: Equipment); that each entry is accepted is in the lists' being those of records. By
-- what the promises say of the lists that the records hold. Assumes nothing.
use Rattle.std.specs.Prelude.{◌≡◌, List, [], ℕ, ℤ, Result}
use Rattle.std.proofs.Common.{ap, sym, ◌∙◌}
use Rattle.std.proofs.Math.Option.{Option, some}
use Rattle.std.specs.Borrow.{Bor, MutBor}
use Rattle.paper.specs.declared.Entry.{Entry}
use Rattle.paper.specs.declared.CentreOfGravity.{CentreOfGravity}
use Rattle.paper.specs.declared.Placard.{Placard}
use Rattle.paper.specs.declared.Refusal.{Refusal}
use Rattle.paper.specs.Equipment.{SameButOrder}
use Rattle.paper.specs.Answers.{centre_answer, equipment_answer, placard_answer}
use Rattle.paper.specs.Journal.{Call, journal}
use Rattle.record.specs.declared.Record.{Record}
use Rattle.record.specs.Held.{held_by}
use Rattle.record.proofs.Record.centre_of_gravity.Reads as centre
use Rattle.plate.proofs.placard.Reads as placard
use Rattle.inventory.proofs.equipment.Reads as equipment
use Rattle.inventory.proofs.show.Reads as schedule
use Rattle.schedule.specs.Schedules.{schedule_answer}
use Rattle.front.specs.Front.{held_in, equipment_for, placard_for}
use Rattle.lent.specs.Lent.{journal_in}
use Rattle.nodhulika.specs.Exported.{equipment_into, placard_into}
use Rattle.nodhulika.proofs.nodhulika_equipment.Reads as library-equipment
use Rattle.nodhulika.proofs.nodhulika_placard.Reads as library-placard
use Rattle.stations.proofs.Reordered as reordered
use Rattle.claim.specs.RecordCalls.{Trace, follows}
use Rattle.claim.specs.LibraryCalls as of-library

-- ---- after a list of calls

pub equipment_after : {calls : List Call} {r : Record} {answers : List ℕ} → Trace calls r answers
    → (κs : _) (b b' : Bor Record) (x x' y y' z z' : MutBor (List ℤ)) (a : Result ℕ Refusal) → b.now ≡ r → equipment.Post κs (b, (x, (y, (z, tt)))) a (b', (x', (y', (z', tt))))
    → ◌≡◌ {A = Result ℕ Refusal × List ℤ × List ℤ × List ℤ} (a, x'.now, y'.now, z'.now) (equipment_answer (journal calls) x.now y.now z.now)
equipment_after t κs b b' x x' y y' z z' a e h =
    h ∙ ap (λ (es : List Entry). equipment_answer es x.now y.now z.now) (ap held_by e ∙ (follows t).list)

pub schedule_after : {calls : List Call} {r : Record} {answers : List ℕ} → Trace calls r answers
    → (κs : _) (b b' : Bor Record) (o o' : MutBor (List ℕ)) (a : Result ℕ Refusal) → b.now ≡ r → schedule.Post κs (b, (o, tt)) a (b', (o', tt))
    → ◌≡◌ {A = Result ℕ Refusal × List ℕ} (a, o'.now) (schedule_answer (journal calls) o.now)
schedule_after t κs b b' o o' a e h =
    h ∙ ap (λ (es : List Entry). schedule_answer es o.now) (ap held_by e ∙ (follows t).list)

-- the same of the library to link, in a buffer of n bytes
pub lent_equipment_after : {n : ℕ} {calls : List Call} {buffer answers : List ℕ} → of-library.Trace n calls buffer answers
    → (κs : _) (b b' : Bor (List ℕ)) (x x' y y' z z' : MutBor (List ℤ)) (c c' : MutBor ℕ) (k : ℕ) → b.now ≡ buffer → library-equipment.Post κs (b, (x, (y, (z, (c, tt))))) k (b', (x', (y', (z', (c', tt)))))
    → ◌≡◌ {A = ℕ × List ℤ × List ℤ × List ℤ × ℕ} (k, x'.now, y'.now, z'.now, c'.now) (equipment_into (some (journal_in n calls)) x.now y.now z.now c.now)
lent_equipment_after t κs b b' x x' y y' z z' c c' k e h =
    h ∙ ap (λ (o : Option (List Entry)). equipment_into o x.now y.now z.now c.now) (ap held_in e ∙ (of-library.follows t).holds.list)

-- ---- two records with the same changes in another order

-- by the calls that gave them
pub same_by_calls : {calls others : List Call} {r q : Record} {answers others-answers : List ℕ} → Trace calls r answers → Trace others q others-answers
    → SameButOrder (journal calls) (journal others) → SameButOrder (held_by r) (held_by q)
same_by_calls t u h = rw ((follows t).list, (follows u).list) h

module _ (r q : Record) (same : SameButOrder (held_by r) (held_by q)) where
  -- the same plate, byte for byte, on every buffer
  pub same_plate : (κs λs : _) (b b' c c' : Bor Record) (o o' p p' : MutBor (List ℕ)) (a k : Result Placard Refusal) → b.now ≡ r → c.now ≡ q → o.now ≡ p.now
      → placard.Post κs (b, (o, tt)) a (b', (o', tt)) → placard.Post λs (c, (p, tt)) k (c', (p', tt))
      → ◌≡◌ {A = Result Placard Refusal × List ℕ} (a, o'.now) (k, p'.now)
  same_plate κs λs b b' c c' o o' p p' a k e f g h i =
      let step : placard_answer (held_by b.now) o.now ≡ placard_answer (held_by c.now) p.now = rw (e, f, g) (reordered.same_placard (held_by r) (held_by q) same p.now) in
      h ∙ step ∙ sym i

  pub same_centre : (κs λs : _) (b b' c c' : Bor Record) (a k : Result CentreOfGravity Refusal) → b.now ≡ r → c.now ≡ q
      → centre.Post κs (b, tt) a (b', tt) → centre.Post λs (c, tt) k (c', tt) → a ≡ k
  same_centre κs λs b b' c c' a k e f h i =
      let step : centre_answer (held_by b.now) ≡ centre_answer (held_by c.now) = rw (e, f) (reordered.same_centre (held_by r) (held_by q) same) in
      h ∙ step ∙ sym i

  pub same_equipment : (κs λs : _) (b b' c c' : Bor Record) (x x' y y' z z' u u' v v' w w' : MutBor (List ℤ)) (a k : Result ℕ Refusal) → b.now ≡ r → c.now ≡ q → x.now ≡ u.now → y.now ≡ v.now → z.now ≡ w.now
      → equipment.Post κs (b, (x, (y, (z, tt)))) a (b', (x', (y', (z', tt)))) → equipment.Post λs (c, (u, (v, (w, tt)))) k (c', (u', (v', (w', tt))))
      → ◌≡◌ {A = Result ℕ Refusal × List ℤ × List ℤ × List ℤ} (a, x'.now, y'.now, z'.now) (k, u'.now, v'.now, w'.now)
  same_equipment κs λs b b' c c' x x' y y' z z' u u' v v' w w' a k e f l m n h i =
      let step : equipment_answer (held_by b.now) x.now y.now z.now ≡ equipment_answer (held_by c.now) u.now v.now w.now = rw (e, f, l, m, n) (reordered.same_equipment (held_by r) (held_by q) same u.now v.now w.now) in
      h ∙ step ∙ sym i

-- ---- two lent records

-- the same plate and counts of the library to link, on every two buffers
pub same_lent_plate : (es fs : List Entry) → SameButOrder es fs
    → (κs λs : _) (b b' c c' : Bor (List ℕ)) (o o' p p' x x' y y' : MutBor (List ℕ)) (n m : ℕ) → held_in b.now ≡ some es → held_in c.now ≡ some fs → o.now ≡ p.now → x.now ≡ y.now
    → library-placard.Post κs (b, (o, (x, tt))) n (b', (o', (x', tt))) → library-placard.Post λs (c, (p, (y, tt))) m (c', (p', (y', tt)))
    → ◌≡◌ {A = ℕ × List ℕ × List ℕ} (n, o'.now, x'.now) (m, p'.now, y'.now)
unfolding placard_into placard_for
same_lent_plate es fs same κs λs b b' c c' o o' p p' x x' y y' n m e f g k h i =
    let step : placard_into (held_in b.now) o.now x.now ≡ placard_into (held_in c.now) p.now y.now = rw (e, f, g, k, reordered.same_placard es fs same [], reordered.same_placard es fs same p.now) in
    h ∙ step ∙ sym i

-- and the same equipment
pub same_lent_equipment : (es fs : List Entry) → SameButOrder es fs
    → (κs λs : _) (b b' c c' : Bor (List ℕ)) (x x' y y' z z' u u' v v' w w' : MutBor (List ℤ)) (d d' e e' : MutBor ℕ) (n m : ℕ) → held_in b.now ≡ some es → held_in c.now ≡ some fs → x.now ≡ u.now → y.now ≡ v.now → z.now ≡ w.now → d.now ≡ e.now
    → library-equipment.Post κs (b, (x, (y, (z, (d, tt))))) n (b', (x', (y', (z', (d', tt))))) → library-equipment.Post λs (c, (u, (v, (w, (e, tt))))) m (c', (u', (v', (w', (e', tt)))))
    → ◌≡◌ {A = ℕ × List ℤ × List ℤ × List ℤ × ℕ} (n, x'.now, y'.now, z'.now, d'.now) (m, u'.now, v'.now, w'.now, e'.now)
unfolding equipment_into equipment_for
same_lent_equipment es fs same κs λs b b' c c' x x' y y' z z' u u' v v' w w' d d' e e' n m f g k l o p h i =
    let step : equipment_into (held_in b.now) x.now y.now z.now d.now ≡ equipment_into (held_in c.now) u.now v.now w.now e.now = rw (f, g, k, l, o, p, reordered.same_equipment es fs same u.now v.now w.now) in
    h ∙ step ∙ sym i
