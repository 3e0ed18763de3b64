use Rattle.std.proofs.Common.{arith, sym}
use Rattle.litmus_reading.proofs.ElementsLeft.{all_left, element_read, last_element, more_elements, next_left}
use Rattle.litmus_reading.proofs.Entries.{reads_last, reads_more, reads_none}
use Rattle.litmus_reading.proofs.contents.read_elements.Goals as goal

pub loop-element-init : goal.loop-element-init
loop-element-init c = (reads_none _ _ _ _, all_left _ _ _ _)

pub loop-element-preserved : goal.loop-element-preserved
loop-element-preserved c = (
  reads_more _ _ _ _ _ _ _ _ _ _ _ _ c.loop-element.invariant.0 c.in_ok-value.ensures.taken
      c.in-Some.ensures.spelled c.index_of.ensures c.in_ok-add_initial.ensures.added,
  λ after end it.
      let next = next_left c.args.given c.args.declared c.loop-element.element c.loop-element.rest.now
      c.loop-element.entries.items after end (c.loop-element.invariant.1 after end it) in
      let held = c.in_ok-value.ensures.only next.held next.between next.value next.no_index next.no_offset in
      more_elements _ _ _ _ _ _ _ _ c.in-Some.ensures.spelled
      (element_read _ _ _ _ _ _ _ _ _ _ _ next held.0 held.1 c.index_of.ensures c.in_ok-add_initial.ensures.added),
)

pub returns-in_err-value-clause-only : goal.returns-in_err-value-clause-only
returns-in_err-value-clause-only c = λ after end it.
    let next = next_left c.args.given c.args.declared c.loop-element.element c.loop-element.rest.now
    c.loop-element.entries.items after end (c.loop-element.invariant.1 after end it) in
    absurd (c.in_err-value.ensures.only next.held next.between next.value next.no_index next.no_offset)

pub returns-in_default-clause-taken : goal.returns-in_default-clause-taken
returns-in_default-clause-taken c =
    reads_last _ _ _ _ _ _ _ _ _ _ _ _ _ c.elements_of-count.ensures.value c.loop-element-test.true
    c.loop-element.invariant.0 c.in_ok-value.ensures.taken c.in_ok-after.ensures.spelled c.index_of.ensures
    c.in_ok-add_initial.ensures.added

pub returns-in_err-after-clause-only : goal.returns-in_err-after-clause-only
returns-in_err-after-clause-only c = λ after end it.
    let next = next_left c.args.given c.args.declared c.loop-element.element c.loop-element.rest.now
    c.loop-element.entries.items after end (c.loop-element.invariant.1 after end it) in
    let held = c.in_ok-value.ensures.only next.held next.between next.value next.no_index next.no_offset in
    let last = last_element _ _ _ _ _ _ _ (λ behind comma. c.in_default.ensures.only behind comma)
    (element_read _ _ _ _ _ _ _ _ _ _ _ next held.0 held.1 c.index_of.ensures c.in_ok-add_initial.ensures.added) in
    absurd (c.in_err-after.ensures.only end last.0)

pub returns-in_default-clause-only : goal.returns-in_default-clause-only
returns-in_default-clause-only c = λ after end it.
    let next = next_left c.args.given c.args.declared c.loop-element.element c.loop-element.rest.now
    c.loop-element.entries.items after end (c.loop-element.invariant.1 after end it) in
    let held = c.in_ok-value.ensures.only next.held next.between next.value next.no_index next.no_offset in
    let last = last_element _ _ _ _ _ _ _ (λ behind comma. c.in_default.ensures.only behind comma)
    (element_read _ _ _ _ _ _ _ _ _ _ _ next held.0 held.1 c.index_of.ensures c.in_ok-add_initial.ensures.added) in
    (c.in_ok-after.ensures.only end last.0, sym last.1)

pub returns-clause-only : goal.returns-clause-only
returns-clause-only c = λ after end it.
    let next = next_left c.args.given c.args.declared c.loop-element.element c.loop-element.rest.now
    c.loop-element.entries.items after end (c.loop-element.invariant.1 after end it) in
    let inside = next.inside in
    let over = c.loop-element-test.false in
    let many = c.elements_of-count.ensures.value in
    absurd (omega (arith, inside, over, many))
