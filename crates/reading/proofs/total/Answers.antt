-- `reading::total` meets its contract: each way out by the law of its method. Assumes nothing.
use Rattle.std.proofs.Common.{◌≡◌, arith}
use Rattle.reading.proofs.Conditions.{p_most, q_most, method_least, method_most, in_4, total_1_2, total_3, total_4}
use Rattle.reading.proofs.total.Goals.{In_default}
use Rattle.reading.proofs.total.Goals as goal

fourth : (c : In_default) → c.args.w.m ≡ 4
fourth c = omega (arith, method_least c.args.w c.requires, method_most c.args.w c.requires)

pub overflow_add-result : goal.overflow_add-result
overflow_add-result c = omega (arith, p_most c.args.w c.requires, q_most c.args.w c.requires)

pub overflow_sub-result : goal.overflow_sub-result
overflow_sub-result c = omega (arith, in_4 c.args.w c.requires (fourth (goal.at.overflow_sub-result c).In_default))

pub returns-in-1 : goal.returns-in-1
returns-in-1 c = total_1_2 c.args.w c.requires (omega arith)

pub returns-in-2 : goal.returns-in-2
returns-in-2 c = total_1_2 c.args.w c.requires (omega arith)

pub returns-in-3 : goal.returns-in-3
returns-in-3 c = total_3 c.args.w c.requires c.in-3.is

pub returns-in_default : goal.returns-in_default
returns-in_default c = total_4 c.args.w c.requires (fourth (goal.at.returns-in_default c).In_default)
