-- A paired weighing's values: each behind the one before it. Assumes nothing.
use Rattle.std.proofs.Common.{◌≡◌, ◌∙◌, rules}
use Rattle.paper.specs.declared.Entry.TheVariants as entry
use Rattle.paper.specs.File.{values_of}
use Rattle.wording.proofs.Parts.{put_all, all_put, then_put, signed_put, none_put}
use Rattle.wording.proofs.PairedWorded.put_values.Goals as goal

pub returns : goal.returns
returns g c =
    let a = c.args in
    let put : c.put_number-8.new.text.bytes ≡ put_all (values_of (entry.Paired a.self)) a.text.now.bytes =
    (then_put _ _ _ _ _ c.put_number.ensures.behind
    (then_put _ _ _ _ _ c.put_number-2.ensures.behind
    (then_put _ _ _ _ _ c.put_number-3.ensures.behind
    (then_put _ _ _ _ _ c.put_number-4.ensures.behind
    (then_put _ _ _ _ _ c.put_number-5.ensures.behind
    (then_put _ _ _ _ _ (signed_put a.self.a _ _ (search rules) c.put_number-6.ensures.behind)
    (then_put _ _ _ _ _ c.put_number-7.ensures.behind
    (then_put _ _ _ _ _ c.put_number-8.ensures.behind
    (none_put _))))))))) in
    put ∙ all_put (values_of (entry.Paired a.self)) a.text.now.bytes
