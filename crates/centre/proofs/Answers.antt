-- What the call answers, by whether the list has a balance. Assumes nothing.
use mathlib.Core.Path.{◌≡◌}
use mathlib.Core.List.{List}
use mathlib.Core.Option.{none, some}
use lib.IntN.{nat_abs}
use Rattle.std.specs.Prelude.{Result, Ok, Err}
use Rattle.paper.specs.declared.CentreOfGravity.{CentreOfGravity}
use Rattle.paper.specs.declared.Refusal.{Refusal}
use Rattle.paper.specs.declared.Refusal.TheVariants.{NoWeighing}
use Rattle.paper.specs.declared.Entry.{Entry}
use Rattle.paper.specs.Numbers.{refusal_of}
use Rattle.paper.specs.Record.{Balance, balance_of, centre_of, is_none}
use Rattle.paper.specs.Refusals.{first_number, centre_number}
use Rattle.paper.specs.Answers.{centre_given, centre_answer}

abbrev Answer : Type 0
Answer = Result CentreOfGravity Refusal

pub centre_none : (es : List Entry) → balance_of es ≡ none → ◌≡◌ {A = Answer} (centre_answer es) (Err NoWeighing)
unfolding centre_answer centre_number first_number is_none refusal_of
centre_none es e = rw e

pub centre_some : (es : List Entry) (b : Balance) → balance_of es ≡ some b → ◌≡◌ {A = Answer} (centre_answer es) (Ok (record { total = nat_abs b.total; moment = b.moment; centre = centre_of b }))
unfolding centre_answer centre_given
centre_some es b e = rw e
