-- Whether what stands has a balance is whether the list has a weighing: both options are none together. Assumes nothing.
use mathlib.Core.Path.{◌≡◌, refl, ap, ◌∙◌}
use mathlib.Core.Bool.{not}
use mathlib.Core.List.{List}
use Rattle.std.specs.Prelude.{Option, Some, None, is_some}
use Rattle.paper.specs.declared.Entry.{Entry}
use Rattle.paper.specs.Record.{balance_of, is_none}
use Rattle.balance.specs.declared.Balance.{Balance}
use Rattle.judge.specs.declared.Standing.{Standing}
use Rattle.judge.specs.Standing.{Stands, stands_in, plainly, balance_in}

some_by : (o : Option Balance) → is_some o ≡ not (is_none (balance_in o))
unfolding is_none
some_by None = refl
some_by (Some b) = refl

pub weighed_by : (es : List Entry) (s : Standing) → plainly s ≡ stands_in es → is_some s.balance ≡ not (is_none (balance_of es))
unfolding stands_in
weighed_by es s h = some_by s.balance ∙ ap (λ (o : Stands). not (is_none o.balance)) h
