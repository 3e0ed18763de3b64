use Rattle.litmus_reading.specs.Starts.{initial_in}
use Rattle.litmus_reading.proofs.Chains.{passed_on}
use Rattle.litmus_reading.proofs.Entries.{location_added, none_of_same}
use Rattle.litmus_reading.proofs.EntryRead.{moved_contents, none_read}
use Rattle.litmus_reading.proofs.start.add_location.Goals as goal

pub returns-clause-taken : goal.returns-clause-taken
returns-clause-taken c =
    location_added _ _ _ _ _ _ _ c.in_ok-declared.ensures.taken c.in_ok-rest.ensures.taken
    (none_of_same (λ entries. initial_in entries c.in_ok-declared.declared.first) _ _ _ c.as_slice.ensures.value
    c.initial_in-before.ensures c.in_ok-check_once.ensures.none)

pub returns-in_err-declared-clause-only : goal.returns-in_err-declared-clause-only
returns-in_err-declared-clause-only c = λ declared between rest after name contents once ended.
    absurd (c.in_err-declared.ensures.only declared between name)

pub returns-in_err-rest-clause-only : goal.returns-in_err-rest-clause-only
returns-in_err-rest-clause-only c = λ declared between rest after name contents once ended.
    let read = c.in_ok-declared.ensures.only declared between name in
    passed_on c.from_residual-in_err-rest.result c.in_err-rest.field-0.0 _ _ c.from_residual-in_err-rest.ensures.1
    (c.in_err-rest.ensures.only after rest (moved_contents _ _ _ _ _ _ _ _ read.0 read.1 contents) ended)

pub returns-in_err-check_once-clause-only : goal.returns-in_err-check_once-clause-only
returns-in_err-check_once-clause-only c = λ declared between rest after name contents once ended.
    let read = c.in_ok-declared.ensures.only declared between name in
    absurd (c.in_err-check_once.ensures.only
    (none_read _ _ _ _ _ read.0 c.as_slice.ensures.value c.initial_in-before.ensures once))

pub returns-clause-only : goal.returns-clause-only
returns-clause-only c = λ declared between rest after name contents once ended.
    let read = c.in_ok-declared.ensures.only declared between name in
    c.in_ok-rest.ensures.only after rest (moved_contents _ _ _ _ _ _ _ _ read.0 read.1 contents) ended
