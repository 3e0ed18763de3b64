use Rattle.litmus_reading.proofs.Conditions.{of_truth}
use Rattle.litmus_reading.proofs.ConditionRead.{few_leaves, term_read, truth_read}
use Rattle.litmus_reading.proofs.condition.read_leaf.Goals as goal

pub returns-in-Some-clause-taken : goal.returns-in-Some-clause-taken
returns-in-Some-clause-taken c =
    of_truth _ _ _ _ _ c.in-Some.ensures.spelled c.in_ok-count_leaf.ensures.counted c.in_ok-count_leaf.ensures.few

pub returns-in-Some-clause-only : goal.returns-in-Some-clause-only
returns-in-Some-clause-only c = λ syntax condition rest it.
    truth_read c.args.asked.now.harts c.args.leaves.now.count _ c.args.words.now c.in-Some.behind.now rest syntax condition
    c.in-Some.ensures.spelled it c.in_ok-count_leaf.ensures.counted

pub returns-in_err-count_leaf-clause-only : goal.returns-in_err-count_leaf-clause-only
returns-in_err-count_leaf-clause-only c = λ syntax condition rest it.
    absurd (c.in_err-count_leaf.ensures.only (few_leaves _ _ _ _ _ syntax condition rest it))

pub returns-clause-only : goal.returns-clause-only
returns-clause-only c =
    term_read c.args.asked.now.harts c.args.leaves.now.count _ c.args.words.now c.read_term.result
    c.read_term.ensures.only_equal c.read_term.ensures.only_other c.in_default.ensures.only
