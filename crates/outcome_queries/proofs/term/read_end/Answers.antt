use Rattle.std.proofs.Common.{sym, ◌∙◌}
use Rattle.outcome_queries.proofs.TermReading.{no_end, not_both}
use Rattle.outcome_queries.proofs.term.read_end.Goals as goal

pub returns-then-not-is_equality-clause-none : goal.returns-then-not-is_equality-clause-none
returns-then-not-is_equality-clause-none c names =
    no_end names c.args.cut.left.now c.args.cut.relation c.args.cut.right.now c.in_default-read_value.ensures.none
    (λ is. absurd (not_both _ c.if-not-is_equality.true (c.is_equality.ensures ∙ is)))

pub returns-in-None-clause-none : goal.returns-in-None-clause-none
returns-in-None-clause-none c names =
    no_end names c.args.cut.left.now c.args.cut.relation c.args.cut.right.now c.in_default-read_value.ensures.none
    (λ is. c.in-None.ensures.none)
