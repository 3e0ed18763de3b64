use Rattle.std.proofs.Common.{arith, tests}
use Rattle.litmus_reading.proofs.Chains.{passed_on}
use Rattle.litmus_reading.proofs.Entries.{last_entry, next_entry, no_entry}
use Rattle.litmus_reading.proofs.EntriesLeft.{all_left, last_left, less_left, more_left, next_left, nothing_left, rest_left}
use Rattle.litmus_reading.proofs.start.read_start.Goals as goal

pub loop-rest-init : goal.loop-rest-init
loop-rest-init c =
    (rw c.new-entries.ensures.items (λ others are. are), λ all are. all_left all _ _ c.new-entries.ensures.items are)

pub loop-rest-preserved : goal.loop-rest-preserved
loop-rest-preserved c = (
  next_entry _ _ _ _ _ _ c.loop-rest.invariant.0 c.in_ok-behind.ensures.taken c.in_ok-rest.ensures.spelled,
  λ all are.
      let next = next_left all c.loop-rest.entries.items c.loop-rest.rest.now (c.loop-rest.invariant.1 all are)
      (λ none. grind (arith, tests, c.loop-rest-test.true, c.is_empty.ensures, none)) in
      let read = c.in_ok-behind.ensures.only next.after next.between next.taken next.ended in
      let more = more_left all c.loop-rest.entries.items _ c.loop-rest.rest.now c.in_ok-behind.behind.now next read.0 read.1
      (λ none. grind (arith, tests, c.if-is_empty.false, c.is_empty-in-loop-rest.ensures, none)) in
      rest_left all _ c.in_ok-behind.behind.now c.in_ok-rest.rest.now more (c.in_ok-rest.ensures.only more.0 more.1),
)

pub loop-rest-smaller : goal.loop-rest-smaller
loop-rest-smaller c =
    less_left c.loop-rest.rest.now c.in_ok-behind.behind.now c.in_ok-rest.rest.now _ c.in_ok-behind.ensures.taken.takes
    c.in_ok-rest.ensures.shorter

pub returns-in_err-behind-clause-only : goal.returns-in_err-behind-clause-only
returns-in_err-behind-clause-only c = λ all are.
    let next = next_left all c.loop-rest.entries.items c.loop-rest.rest.now (c.loop-rest.invariant.1 all are)
    (λ none. grind (arith, tests, c.loop-rest-test.true, c.is_empty.ensures, none)) in
    passed_on c.from_residual.result c.in_err-behind.field-0.0 _ _ c.from_residual.ensures.1
    (c.in_err-behind.ensures.only next.after next.between next.taken next.ended)

pub returns-then-is_empty-clause-taken : goal.returns-then-is_empty-clause-taken
returns-then-is_empty-clause-taken c =
    last_entry _ _ _ _ _ c.loop-rest.invariant.0 c.in_ok-behind.ensures.taken
    (grind (arith, tests, c.if-is_empty.true, c.is_empty-in-loop-rest.ensures))

pub returns-then-is_empty-clause-only : goal.returns-then-is_empty-clause-only
returns-then-is_empty-clause-only c = λ all are.
    let next = next_left all c.loop-rest.entries.items c.loop-rest.rest.now (c.loop-rest.invariant.1 all are)
    (λ none. grind (arith, tests, c.loop-rest-test.true, c.is_empty.ensures, none)) in
    let read = c.in_ok-behind.ensures.only next.after next.between next.taken next.ended in
    last_left all c.loop-rest.entries.items _ c.loop-rest.rest.now c.in_ok-behind.behind.now next read.0 read.1
    (grind (arith, tests, c.if-is_empty.true, c.is_empty-in-loop-rest.ensures))

pub returns-in_err-rest-clause-only : goal.returns-in_err-rest-clause-only
returns-in_err-rest-clause-only c = λ all are.
    let next = next_left all c.loop-rest.entries.items c.loop-rest.rest.now (c.loop-rest.invariant.1 all are)
    (λ none. grind (arith, tests, c.loop-rest-test.true, c.is_empty.ensures, none)) in
    let read = c.in_ok-behind.ensures.only next.after next.between next.taken next.ended in
    let more = more_left all c.loop-rest.entries.items _ c.loop-rest.rest.now c.in_ok-behind.behind.now next read.0 read.1
    (λ none. grind (arith, tests, c.if-is_empty.false, c.is_empty-in-loop-rest.ensures, none)) in
    absurd (c.in_err-rest.ensures.only more.0 more.1)

pub returns-clause-taken : goal.returns-clause-taken
returns-clause-taken c =
    no_entry _ _ _ c.loop-rest.invariant.0 (grind (arith, tests, c.loop-rest-test.false, c.is_empty.ensures))

pub returns-clause-only : goal.returns-clause-only
returns-clause-only c = λ all are.
    nothing_left all c.loop-rest.entries.items c.loop-rest.rest.now (c.loop-rest.invariant.1 all are)
    (grind (arith, tests, c.loop-rest-test.false, c.is_empty.ensures))
