use Rattle.litmus_reading.proofs.Chains.{passed_on}
use Rattle.litmus_reading.proofs.Contained.{array_elements, array_parts}
use Rattle.litmus_reading.proofs.Entries.{empty_array, filled_array}
use Rattle.litmus_reading.proofs.contents.read_array.Goals as goal

pub returns-in_default-clause-taken : goal.returns-in_default-clause-taken
returns-in_default-clause-taken c =
    empty_array _ _ _ _ _ _ c.requires c.in_ok-rest.ensures.taken c.in_ok-rest.ensures.plain
    c.in_ok-add_initial.ensures.added

pub returns-clause-taken : goal.returns-clause-taken
returns-clause-taken c =
    filled_array _ _ _ _ _ _ _ _ _ c.requires c.in_ok-rest.ensures.taken c.in_ok-rest.ensures.plain c.in-Some.ensures.spelled c.in_ok-inner.ensures.spelled
    c.in_ok-rest-2.ensures.taken

pub returns-in_err-rest-clause-only : goal.returns-in_err-rest-clause-only
returns-in_err-rest-clause-only c = λ after rest it ended.
    let parts = array_parts c.args.given c.args.declared c.args.words.now c.args.entries.now.items after rest c.requires it in
    absurd (c.in_err-rest.ensures.only parts.between parts.count parts.plain)

pub returns-in_err-rest-2-clause-only : goal.returns-in_err-rest-2-clause-only
returns-in_err-rest-2-clause-only c = λ after rest it ended.
    let parts = array_parts c.args.given c.args.declared c.args.words.now c.args.entries.now.items after rest c.requires it in
    let elements = array_elements _ _ _ _ _ _ _ _ _ parts
    (c.in_ok-rest.ensures.only parts.between parts.count parts.plain) c.in-Some.ensures.spelled
    c.in_ok-inner.ensures.spelled ended in
    passed_on c.from_residual-in_err-rest-2.result c.in_err-rest-2.field-0.0 _ _
    c.from_residual-in_err-rest-2.ensures.1 (c.in_err-rest-2.ensures.only after rest elements)

pub returns-clause-only : goal.returns-clause-only
returns-clause-only c = λ after rest it ended.
    let parts = array_parts c.args.given c.args.declared c.args.words.now c.args.entries.now.items after rest c.requires it in
    let elements = array_elements _ _ _ _ _ _ _ _ _ parts
    (c.in_ok-rest.ensures.only parts.between parts.count parts.plain) c.in-Some.ensures.spelled
    c.in_ok-inner.ensures.spelled ended in
    c.in_ok-rest-2.ensures.only after rest elements
