use Rattle.litmus_reading.proofs.ItemsRead.{item_behind, item_stops, last_item, more_items, none_so_far, nothing_left, one_more}
use Rattle.litmus_reading.proofs.Listing.{at_first, item_last, item_more, no_item}
use Rattle.litmus_reading.proofs.question.read_items.Goals as goal

pub loop-listed-init : goal.loop-listed-init
loop-listed-init c =
    none_so_far _ _ _ _ c.requires.observed c.requires.whole
    (at_first _ _ _ _ c.requires.observed c.requires.whole)

pub loop-listed-preserved : goal.loop-listed-preserved
loop-listed-preserved c =
    one_more _ _ _ _ _ _
    (item_more _ _ _ _ _ _ _ _ _ c.loop-listed.invariant.taken c.in_ok-behind.ensures.taken c.in_ok-rest.ensures.spelled)
    (c.begins_with-in-loop-listed.ensures.no c.if-begins_with.false) c.in_ok-rest.ensures.spelled
    (item_behind _ _ _ _ _ _ _ c.in_ok-behind.behind c.loop-listed.invariant (c.begins_with.ensures.no c.loop-listed-test.true)
    c.in_ok-behind.ensures.only_one c.in_ok-behind.ensures.only_whole)

pub returns-in_err-behind-clause-only : goal.returns-in_err-behind-clause-only
returns-in_err-behind-clause-only c = λ all all_whole end are.
    item_stops _ _ _ _ _ _ _ c.in_err-behind.field-0.0 c.from_residual.result c.loop-listed.invariant
    (c.begins_with.ensures.no c.loop-listed-test.true) c.in_err-behind.ensures.only_one c.in_err-behind.ensures.only_whole
    c.from_residual.ensures.1 all all_whole end _ are

pub returns-then-begins_with-clause-taken : goal.returns-then-begins_with-clause-taken
returns-then-begins_with-clause-taken c =
    item_last _ _ _ _ _ _ _ _ _ c.loop-listed.invariant.taken c.in_ok-behind.ensures.taken c.in_ok-after.ensures.spelled

pub returns-then-begins_with-clause-only : goal.returns-then-begins_with-clause-only
returns-then-begins_with-clause-only c = λ all all_whole end are.
    last_item _ _ _ _ _ _ _ _ c.in_ok-after.ensures.spelled
    (item_behind _ _ _ _ _ _ _ c.in_ok-behind.behind c.loop-listed.invariant (c.begins_with.ensures.no c.loop-listed-test.true)
    c.in_ok-behind.ensures.only_one c.in_ok-behind.ensures.only_whole all all_whole end are)

pub returns-in_err-rest-clause-only : goal.returns-in_err-rest-clause-only
returns-in_err-rest-clause-only c = λ all all_whole end are.
    let more = more_items _ _ _ _ _ _ _ (c.begins_with-in-loop-listed.ensures.no c.if-begins_with.false)
    (item_behind _ _ _ _ _ _ _ c.in_ok-behind.behind c.loop-listed.invariant (c.begins_with.ensures.no c.loop-listed-test.true)
    c.in_ok-behind.ensures.only_one c.in_ok-behind.ensures.only_whole all all_whole end are) in
    absurd (c.in_err-rest.ensures.only more.0 more.1)

pub returns-clause-taken : goal.returns-clause-taken
returns-clause-taken c =
    no_item _ _ _ _ _ _ c.loop-listed.invariant.taken c.in_ok-after-2.ensures.spelled

pub returns-clause-only : goal.returns-clause-only
returns-clause-only c = λ all all_whole end are.
    nothing_left _ _ _ _ _ _ c.loop-listed.invariant c.in_ok-after-2.ensures.spelled all all_whole end are
