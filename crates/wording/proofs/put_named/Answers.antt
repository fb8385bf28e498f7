-- `wording::put_named` meets its contract: the name, and behind it the values. Assumes nothing.
use Rattle.std.proofs.Common.{◌++◌, ap, ◌∙◌}
use Rattle.paper.specs.File.{values_of}
use Rattle.wording.specs.Texts.{values_text}
use Rattle.wording.proofs.put_named.Goals as goal

pub returns : goal.returns
returns g c =
    c.put_values.ensures ∙ ap (λ (s : _). s ++ values_text (values_of (g.W.Worded.entry c.args.x))) c.push_str.ensures.bytes
