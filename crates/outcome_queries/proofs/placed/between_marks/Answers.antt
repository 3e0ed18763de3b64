use Rattle.std.proofs.Common.{sym, arith, ◌∙◌, ◌-◌, length, take, drop}
use Rattle.outcome_queries.proofs.Marked.{lacks_where, marked_found, marked_none}
use Rattle.outcome_queries.proofs.placed.between_marks.Goals as goal

pub returns-then-contains-clause-none : goal.returns-then-contains-clause-none
returns-then-contains-clause-none c =
    marked_none c.args.text.now (sym c.contains.ensures.value ∙ c.if-contains.true)

pub returns-else-contains-clause-found : goal.returns-else-contains-clause-found
returns-else-contains-clause-found c =
    marked_found c.args.text.now (omega arith) c.if-text-ne39.false c.if-text-ne39-2.false
    (lacks_where 39 (take (length c.args.text.now - 1 - 1) (drop 1 c.args.text.now))
    (sym c.contains.ensures.value ∙ c.if-contains.false))
