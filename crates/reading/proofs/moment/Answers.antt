-- `reading::moment` meets its contract: each method by its law, where a is read back from its bits. Assumes nothing.
use Rattle.std.proofs.Common.{◌≡◌, ◌+◌, ◌-◌, ◌≤◌, rules, arith}
use Rattle.laws.specs.Sides.{sides_of}
use Rattle.reading.proofs.Conditions.{p_most, q_most, method_least, method_most, in_1_2, in_4}
use Rattle.reading.proofs.Moments.{moment_1, moment_2, moment_3, moment_4, a_fits, b_fits, fits}
use Rattle.reading.proofs.moment.Goals.{After-from-a, In_default}
use Rattle.reading.proofs.moment.Goals as goal

a_is : (c : After-from-a) → c.from-a.result ≡ sides_of c.args.w.a
a_is c = search rules

fourth : (c : In_default) → c.args.w.m ≡ 4
fourth c = omega (arith, method_least c.args.w c.requires.0, method_most c.args.w c.requires.0)

under : (c : In_default) → c.args.w.q ≤ c.args.w.p
under c = omega (arith, in_4 c.args.w c.requires.0 (fourth c))

-- ---- 1

pub mul-requires : goal.mul-requires
mul-requires c =
    rw (a_is (goal.at.mul-requires c).After-from-a)
    (a_fits c.args.w c.requires.0 c.requires.1 c.args.w.p (omega (arith, p_most c.args.w c.requires.0)))

pub mul-requires-in-1 : goal.mul-requires-in-1
mul-requires-in-1 c = b_fits c.args.w c.requires.0 c.requires.1 c.args.w.q (omega (arith, q_most c.args.w c.requires.0))

pub add-requires : goal.add-requires
add-requires c =
    rw (c.mul.ensures, c.mul-in-1.ensures, a_is (goal.at.add-requires c).After-from-a)
    (fits c.args.w c.requires.0 c.requires.1 _ (moment_1 c.args.w c.requires.0 c.requires.1 c.in-1.is))

pub returns-in-1 : goal.returns-in-1
returns-in-1 c =
    rw (c.add.ensures, c.mul.ensures, c.mul-in-1.ensures, a_is (goal.at.returns-in-1 c).After-from-a)
    (moment_1 c.args.w c.requires.0 c.requires.1 c.in-1.is)

-- ---- 2

pub overflow_sub-w : goal.overflow_sub-w
overflow_sub-w c = (in_1_2 c.args.w c.requires.0 (omega arith)).0

pub mul-requires-in-2 : goal.mul-requires-in-2
mul-requires-in-2 c = b_fits c.args.w c.requires.0 c.requires.1 (c.args.w.p - c.args.w.q) (omega (arith, p_most c.args.w c.requires.0))

pub mul-requires-in-2-2 : goal.mul-requires-in-2-2
mul-requires-in-2-2 c =
    rw (a_is (goal.at.mul-requires-in-2-2 c).After-from-a)
    (a_fits c.args.w c.requires.0 c.requires.1 c.args.w.p (omega (arith, p_most c.args.w c.requires.0)))

pub sub-requires : goal.sub-requires
sub-requires c =
    rw (c.mul-in-2.ensures, c.mul-in-2-2.ensures, a_is (goal.at.sub-requires c).After-from-a)
    (fits c.args.w c.requires.0 c.requires.1 _ (moment_2 c.args.w c.requires.0 c.requires.1 (in_1_2 c.args.w c.requires.0 (omega arith)).0 c.in-2.is))

pub returns-in-2 : goal.returns-in-2
returns-in-2 c =
    rw (c.sub.ensures, c.mul-in-2.ensures, c.mul-in-2-2.ensures, a_is (goal.at.returns-in-2 c).After-from-a)
    (moment_2 c.args.w c.requires.0 c.requires.1 (in_1_2 c.args.w c.requires.0 (omega arith)).0 c.in-2.is)

-- ---- 3

pub mul-requires-in-3 : goal.mul-requires-in-3
mul-requires-in-3 c = b_fits c.args.w c.requires.0 c.requires.1 c.args.w.q (omega (arith, q_most c.args.w c.requires.0))

pub overflow_add-w : goal.overflow_add-w
overflow_add-w c = omega (arith, p_most c.args.w c.requires.0, q_most c.args.w c.requires.0)

pub mul-requires-in-3-2 : goal.mul-requires-in-3-2
mul-requires-in-3-2 c =
    rw (a_is (goal.at.mul-requires-in-3-2 c).After-from-a)
    (a_fits c.args.w c.requires.0 c.requires.1 (c.args.w.p + c.args.w.q) (omega (arith, p_most c.args.w c.requires.0, q_most c.args.w c.requires.0)))

pub sub-requires-in-3 : goal.sub-requires-in-3
sub-requires-in-3 c =
    rw (c.mul-in-3.ensures, c.mul-in-3-2.ensures, a_is (goal.at.sub-requires-in-3 c).After-from-a)
    (fits c.args.w c.requires.0 c.requires.1 _ (moment_3 c.args.w c.requires.0 c.requires.1 c.in-3.is))

pub returns-in-3 : goal.returns-in-3
returns-in-3 c =
    rw (c.sub-in-3.ensures, c.mul-in-3.ensures, c.mul-in-3-2.ensures, a_is (goal.at.returns-in-3 c).After-from-a)
    (moment_3 c.args.w c.requires.0 c.requires.1 c.in-3.is)

-- ---- 4

pub overflow_sub-w-in_default : goal.overflow_sub-w-in_default
overflow_sub-w-in_default c = under (goal.at.overflow_sub-w-in_default c).In_default

pub mul-requires-in_default : goal.mul-requires-in_default
mul-requires-in_default c =
    rw (a_is (goal.at.mul-requires-in_default c).After-from-a)
    (a_fits c.args.w c.requires.0 c.requires.1 (c.args.w.p - c.args.w.q) (omega (arith, p_most c.args.w c.requires.0)))

pub mul-requires-in_default-2 : goal.mul-requires-in_default-2
mul-requires-in_default-2 c = b_fits c.args.w c.requires.0 c.requires.1 c.args.w.q (omega (arith, q_most c.args.w c.requires.0))

pub sub-requires-in_default : goal.sub-requires-in_default
sub-requires-in_default c =
    rw (c.mul-in_default.ensures, c.mul-in_default-2.ensures, a_is (goal.at.sub-requires-in_default c).After-from-a)
    (fits c.args.w c.requires.0 c.requires.1 _ (moment_4 c.args.w c.requires.0 c.requires.1 (under (goal.at.sub-requires-in_default c).In_default) (fourth (goal.at.sub-requires-in_default c).In_default)))

pub returns-in_default : goal.returns-in_default
returns-in_default c =
    rw (c.sub-in_default.ensures, c.mul-in_default.ensures, c.mul-in_default-2.ensures, a_is (goal.at.returns-in_default c).After-from-a)
    (moment_4 c.args.w c.requires.0 c.requires.1 (under (goal.at.returns-in_default c).In_default) (fourth (goal.at.returns-in_default c).In_default))
