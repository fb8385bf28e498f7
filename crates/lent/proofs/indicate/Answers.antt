-- `lent::indicate` meets its contract: where the buffer holds a record, the readings are refused, or the call is that of the paired
-- weighing that they feed. Assumes nothing.
use Rattle.std.proofs.Common.{◌≡◌, ℕ, refl, sym, ◌∙◌, arith, rules, List, Result, Ok}
use Rattle.std.proofs.Math.Option.{some}
use Rattle.paper.specs.declared.Paired.{Paired}
use Rattle.paper.specs.declared.Refusal.{Refusal}
use Rattle.paper.specs.declared.Entry.{Entry}
use Rattle.paper.specs.declared.Entry.TheVariants as entry
use Rattle.paper.specs.Numbers.{number_in, number_of}
use Rattle.paper.specs.Indicator.{SentWeighing, sent_by}
use Rattle.paper.specs.Journal.{call_of, call_number, accepted_call, indicate}
use Rattle.paper.proofs.Numbers.{positive}
use Rattle.paper.proofs.Feeding.{fed, refused_readings, fed_readings}
use Rattle.front.specs.Front.{held_in}
use Rattle.lent.specs.Lent.{lent_by, lent_call}
use Rattle.lent.proofs.Answers.{none_held, refused_held}
use Rattle.lent.proofs.indicate.Goals as goal

pub returns-in_err-found : goal.returns-in_err-found
returns-in_err-found c =
    let a = c.args in
    let told : number_in c.from_residual.result ≡ number_of c.in_err-found.field-0.0 = search rules in
    none_held (indicate (sent_by a.x)) a.buffer.now _ _ told c.in_err-found.ensures

pub returns-in_err-pair : goal.returns-in_err-pair
unfolding call_number
returns-in_err-pair c =
    let a = c.args in
    let f = c.in_ok-found.ensures in
    let r = c.in_err-pair.field-0.0 in
    let told : number_in c.from_residual-in_err-pair.result ≡ number_of r = search rules in
    let n = refused_readings f.0 (sent_by a.x) r c.in_err-pair.ensures in
    refused_held (indicate (sent_by a.x)) a.buffer.now f.0 f.1 _ (told ∙ sym n) (omega (arith, told, positive r))

-- the call of the paired weighing that the readings feed is theirs
fed_held : (x : SentWeighing) (es : List Entry) (s : List ℕ) → held_in s ≡ some es → (z : Paired) → ◌≡◌ {A = Result Paired Refusal} (Ok z) (fed x) → lent_call (call_of (entry.Paired z)) s ≡ lent_call (indicate x) s
unfolding lent_call lent_by call_of call_number accepted_call
fed_held x es s h z e = let f = fed_readings es x z e in rw (h, f.0, f.1) refl

pub returns : goal.returns
returns c =
    let a = c.args in
    let f = c.in_ok-found.ensures in
    let x = sent_by a.x in
    rw c.into.ensures at c.add_behind.ensures ∙ fed_held x f.0 a.buffer.now f.1 c.in_ok-pair.pair c.in_ok-pair.ensures
