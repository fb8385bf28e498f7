-- `reading::reckoned` meets its contract: G by `total`, M by `moment`, n as given. Assumes nothing.
use Rattle.std.proofs.Common.{refl, sym, ◌∙◌, ltb-false}
use Rattle.reading.proofs.Conditions.{n_test}
use Rattle.reading.proofs.reckoned.Goals as goal

pub returns : goal.returns
returns c =
    let g = c.total.ensures in
    let m = c.moment-moment.ensures in (
      record { total = g.0; moment = m.0; nonlifting = refl },
      record {
        least = g.1;
        most = g.2;
        part = ltb-false _ _ (sym (n_test c.args.w _ g.0) ∙ c.requires.2);
        moment = m.1;
      },
    )
