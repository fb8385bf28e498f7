-- `reading::bad_nonlifting` meets its contract: n against G. Assumes nothing.
use mathlib.Core.Path.{sym}
use Rattle.reading.proofs.Conditions.{n_test}
use Rattle.reading.proofs.bad_nonlifting.Goals as goal

pub returns : goal.returns
returns c = sym (n_test _ _ c.total.ensures.0)
