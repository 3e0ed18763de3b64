use Rattle.std.proofs.Common.{subst, sym}
use Rattle.litmus_reading.specs.Grammar.{WholeCondition}
use Rattle.litmus_reading.proofs.question.read_filter.Goals as goal

pub returns-clause-only : goal.returns-clause-only
returns-clause-only c = λ filter rest it over.
    c.in_ok-filter.ensures.only filter rest (subst (λ t. WholeCondition c.args.asked.now.harts t filter rest)
    (sym (c.in_ok-behind.ensures.only it.behind it.begins)) it.condition) over
