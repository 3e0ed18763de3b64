use Rattle.outcome_queries.proofs.Placing.{if_none, with_file, without_file}
use Rattle.outcome_queries.proofs.placed.read_name.Goals as goal

pub returns-in_err-name-clause-none : goal.returns-in_err-name-clause-none
returns-in_err-name-clause-none c =
    if_none c.from_residual.result _ (λ name is. c.in_err-name.ensures.none name.name.now
    (without_file c.args.text.now c.in_default.ensures.none name.file name.name.now is))

pub returns-in_err-file-clause-none : goal.returns-in_err-file-clause-none
returns-in_err-file-clause-none c =
    if_none c.from_residual-in_err-file.result _ (λ name is.
    let parts = with_file c.args.text.now c.in-Some.file.now c.in-Some.name.now c.in-Some.ensures.found
    c.in-Some.ensures.place name.file name.name.now is in c.in_err-file.ensures.none parts.0 parts.1)

pub returns-in_err-name-2-clause-none : goal.returns-in_err-name-2-clause-none
returns-in_err-name-2-clause-none c =
    if_none c.from_residual-in_err-name-2.result _ (λ name is.
    let parts = with_file c.args.text.now c.in-Some.file.now c.in-Some.name.now c.in-Some.ensures.found
    c.in-Some.ensures.place name.file name.name.now is in c.in_err-name-2.ensures.none name.name.now parts.2)
