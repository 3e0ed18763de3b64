use Rattle.std.proofs.Common.{arith}
use Rattle.outcome_queries.proofs.Placing.{no_bracket}
use Rattle.outcome_queries.proofs.placed.split_element.Goals as goal

pub returns-then-rest-last-ne93-clause-none : goal.returns-then-rest-last-ne93-clause-none
returns-then-rest-last-ne93-clause-none c =
    no_bracket c.args.text.now c.in_ok-named.named.now c.in_ok-named.rest.now c.in_ok-last.last _
    c.in_ok-named.ensures.found c.in_ok-named.ensures.place (omega arith) c.if-rest-last-ne93.true
