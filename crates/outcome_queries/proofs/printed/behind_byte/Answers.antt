use Rattle.std.proofs.Common.{arith, ◌∙◌}
use Rattle.std.proofs.lemmas.List.{take_rest}
use Rattle.outcome_queries.proofs.Bytes.{no_pair, other_pair, pair_found}
use Rattle.outcome_queries.proofs.printed.behind_byte.Goals as goal

pub returns-clause-found : goal.returns-clause-found
returns-clause-found c =
    pair_found c.args.digits.now _ c.args.byte c.in-Ok.number c.in-Ok.ensures.field (omega arith)
    (take_rest c.args.digits.now 2)

pub returns-in_default-clause-none : goal.returns-in_default-clause-none
returns-in_default-clause-none c others =
    no_pair c.args.digits.now others c.args.byte c.in_default.field-0 (omega arith) c.in_default.ensures.field

pub returns-then-number-from-clause-none : goal.returns-then-number-from-clause-none
returns-then-number-from-clause-none c others =
    other_pair c.args.digits.now others c.args.byte c.in-Ok.number (omega arith) c.in-Ok.ensures.field (λ e. omega arith)
