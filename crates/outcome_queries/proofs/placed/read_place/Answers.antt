use Rattle.outcome_queries.proofs.Placing.{bytes_parts, element_parts, if_none, start_parts}
use Rattle.outcome_queries.proofs.placed.read_place.Goals as goal

pub returns-in_err-name-clause-none : goal.returns-in_err-name-clause-none
returns-in_err-name-clause-none c =
    if_none c.from_residual.result _ (λ name far is.
    let parts = element_parts c.args.text.now c.in-Some.named.now c.in-Some.index.now name far c.in-Some.ensures.found
    c.in-Some.ensures.place is in c.in_err-name.ensures.none name parts.names)

pub returns-in_err-element-clause-none : goal.returns-in_err-element-clause-none
returns-in_err-element-clause-none c =
    if_none c.from_residual-in_err-element.result _ (λ name far is.
    let parts = element_parts c.args.text.now c.in-Some.named.now c.in-Some.index.now name far c.in-Some.ensures.found
    c.in-Some.ensures.place is in c.in_err-element.ensures.none parts.value parts.says)

pub returns-in_err-name-2-clause-none : goal.returns-in_err-name-2-clause-none
returns-in_err-name-2-clause-none c =
    if_none c.from_residual-in_err-name-2.result _ (λ name far is.
    let parts = bytes_parts c.args.text.now c.in-Some-split_outside.named.now c.in-Some-split_outside.distance.now
    name far c.in_default.ensures.none c.in-Some-split_outside.ensures.found c.in-Some-split_outside.ensures.place is
    in c.in_err-name-2.ensures.none name parts.names)

pub returns-in_err-bytes-clause-none : goal.returns-in_err-bytes-clause-none
returns-in_err-bytes-clause-none c =
    if_none c.from_residual-in_err-bytes.result _ (λ name far is.
    let parts = bytes_parts c.args.text.now c.in-Some-split_outside.named.now c.in-Some-split_outside.distance.now
    name far c.in_default.ensures.none c.in-Some-split_outside.ensures.found c.in-Some-split_outside.ensures.place is
    in c.in_err-bytes.ensures.none parts.value parts.says)

pub returns-in_err-name-3-clause-none : goal.returns-in_err-name-3-clause-none
returns-in_err-name-3-clause-none c =
    if_none c.from_residual-in_err-name-3.result _ (λ name far is. c.in_err-name-3.ensures.none name
    (start_parts c.args.text.now name far c.in_default.ensures.none c.in_default-split_outside.ensures.none is))
