use Rattle.std.proofs.Common.{arith}
use Rattle.scripts.proofs.printing.push_action.Goals as goal

pub returns-in-Fetch-clause-spelled : goal.returns-in-Fetch-clause-spelled
returns-in-Fetch-clause-spelled c = rw c.in-Fetch.is c.push_actor.ensures.spelled

pub returns-in-Fetch-clause-length : goal.returns-in-Fetch-clause-length
returns-in-Fetch-clause-length c = omega (arith, c.push_actor.ensures.length)

pub returns-in-Decode-clause-spelled : goal.returns-in-Decode-clause-spelled
returns-in-Decode-clause-spelled c = rw c.in-Decode.is c.push_actor_and_hart.ensures.spelled

pub returns-in-Decode-clause-length : goal.returns-in-Decode-clause-length
returns-in-Decode-clause-length c = c.push_actor_and_hart.ensures.length

pub returns-in-Rename-clause-spelled : goal.returns-in-Rename-clause-spelled
returns-in-Rename-clause-spelled c = rw c.in-Rename.is c.push_actor_and_hart-in-Rename.ensures.spelled

pub returns-in-Rename-clause-length : goal.returns-in-Rename-clause-length
returns-in-Rename-clause-length c = c.push_actor_and_hart-in-Rename.ensures.length

pub returns-in-Retire-clause-spelled : goal.returns-in-Retire-clause-spelled
returns-in-Retire-clause-spelled c = rw c.in-Retire.is c.push_actor_and_hart-in-Retire.ensures.spelled

pub returns-in-Retire-clause-length : goal.returns-in-Retire-clause-length
returns-in-Retire-clause-length c = c.push_actor_and_hart-in-Retire.ensures.length

pub returns-in-Issue-clause-spelled : goal.returns-in-Issue-clause-spelled
returns-in-Issue-clause-spelled c = rw c.in-Issue.is c.push_actor-in-Issue.ensures.spelled

pub returns-in-Issue-clause-length : goal.returns-in-Issue-clause-length
returns-in-Issue-clause-length c = omega (arith, c.push_actor-in-Issue.ensures.length)

pub returns-in-Complete-clause-spelled : goal.returns-in-Complete-clause-spelled
returns-in-Complete-clause-spelled c = rw c.in-Complete.is c.push_actor-in-Complete.ensures.spelled

pub returns-in-Complete-clause-length : goal.returns-in-Complete-clause-length
returns-in-Complete-clause-length c = omega (arith, c.push_actor-in-Complete.ensures.length)

pub returns-in-Unit-clause-spelled : goal.returns-in-Unit-clause-spelled
returns-in-Unit-clause-spelled c = rw c.in-Unit.is c.push_actor-in-Unit.ensures.spelled

pub returns-in-Unit-clause-length : goal.returns-in-Unit-clause-length
returns-in-Unit-clause-length c = omega (arith, c.push_actor-in-Unit.ensures.length)
