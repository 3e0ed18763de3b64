use Rattle.litmus_reading.proofs.Contained.{ended_index, ended_offset, one_added, value_parts}
use Rattle.litmus_reading.proofs.EntryRead.{moved_given}
use Rattle.litmus_reading.proofs.Entries.{no_value, one_value}
use Rattle.litmus_reading.proofs.contents.read_initial.Goals as goal

pub returns-in_default-clause-taken : goal.returns-in_default-clause-taken
returns-in_default-clause-taken c =
    no_value _ _ _ _ _ c.requires c.in_ok-add_initial.ensures.added

pub returns-clause-taken : goal.returns-clause-taken
returns-clause-taken c =
    one_value _ _ _ _ _ _ _ _ c.requires c.in-Some.ensures.spelled c.in_ok-value.ensures.taken c.in_ok-add_initial-2.ensures.added

pub returns-in_err-value-clause-only : goal.returns-in_err-value-clause-only
returns-in_err-value-clause-only c = λ after rest it ended.
    let parts = value_parts c.args.given c.args.declared c.args.words.now c.in-Some.behind.now c.args.entries.now.items
    after rest c.requires c.in-Some.ensures.spelled ended it in
    absurd (c.in_err-value.ensures.only parts.held rest
    (moved_given c.args.given c.in-Some.behind.now parts.behind rest parts.held
    (c.in-Some.ensures.only parts.behind parts.equals) parts.value) (ended_index rest ended) (ended_offset rest ended))

pub returns-clause-only : goal.returns-clause-only
returns-clause-only c = λ after rest it ended.
    let parts = value_parts c.args.given c.args.declared c.args.words.now c.in-Some.behind.now c.args.entries.now.items
    after rest c.requires c.in-Some.ensures.spelled ended it in
    let held = c.in_ok-value.ensures.only parts.held rest
    (moved_given c.args.given c.in-Some.behind.now parts.behind rest parts.held
    (c.in-Some.ensures.only parts.behind parts.equals) parts.value) (ended_index rest ended)
    (ended_offset rest ended) in
    (held.1, one_added _ _ _ _ _ _ held.0 c.in_ok-add_initial-2.ensures.added parts.added)
