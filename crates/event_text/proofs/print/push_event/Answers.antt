use Rattle.std.proofs.Common.{lit≤}
use Rattle.event_text.proofs.Lengths.{shorter}
use Rattle.event_text.proofs.print.push_event.Goals as goal

pub returns-in-Complete-clause-length : goal.returns-in-Complete-clause-length
returns-in-Complete-clause-length g c = c.push_complete.ensures.length

pub returns-in-Complete-clause-spelled : goal.returns-in-Complete-clause-spelled
returns-in-Complete-clause-spelled g c = rw c.in-Complete.is c.push_complete.ensures.spelled

pub returns-in-Decode-clause-length : goal.returns-in-Decode-clause-length
returns-in-Decode-clause-length g c = shorter _ _ 16 64 c.push_step.ensures.length (lit≤ tt)

pub returns-in-Decode-clause-spelled : goal.returns-in-Decode-clause-spelled
returns-in-Decode-clause-spelled g c = rw c.in-Decode.is c.push_step.ensures.spelled

pub returns-in-Drop-clause-length : goal.returns-in-Drop-clause-length
returns-in-Drop-clause-length g c = shorter _ _ 16 64 c.push_step-in-Drop.ensures.length (lit≤ tt)

pub returns-in-Drop-clause-spelled : goal.returns-in-Drop-clause-spelled
returns-in-Drop-clause-spelled g c = rw c.in-Drop.is c.push_step-in-Drop.ensures.spelled

pub returns-in-Fetch-clause-length : goal.returns-in-Fetch-clause-length
returns-in-Fetch-clause-length g c = c.push_fetch.ensures.length

pub returns-in-Fetch-clause-spelled : goal.returns-in-Fetch-clause-spelled
returns-in-Fetch-clause-spelled g c = rw c.in-Fetch.is c.push_fetch.ensures.spelled

pub returns-in-Issue-clause-length : goal.returns-in-Issue-clause-length
returns-in-Issue-clause-length g c = shorter _ _ 16 64 c.push_step-in-Issue.ensures.length (lit≤ tt)

pub returns-in-Issue-clause-spelled : goal.returns-in-Issue-clause-spelled
returns-in-Issue-clause-spelled g c = rw c.in-Issue.is c.push_step-in-Issue.ensures.spelled

pub returns-in-Rename-clause-length : goal.returns-in-Rename-clause-length
returns-in-Rename-clause-length g c = c.push_rename.ensures.length

pub returns-in-Rename-clause-spelled : goal.returns-in-Rename-clause-spelled
returns-in-Rename-clause-spelled g c = rw c.in-Rename.is c.push_rename.ensures.spelled

pub returns-in-Retire-clause-length : goal.returns-in-Retire-clause-length
returns-in-Retire-clause-length g c = c.push_retire.ensures.length

pub returns-in-Retire-clause-spelled : goal.returns-in-Retire-clause-spelled
returns-in-Retire-clause-spelled g c = rw c.in-Retire.is c.push_retire.ensures.spelled

pub returns-in-Refetch-clause-length : goal.returns-in-Refetch-clause-length
returns-in-Refetch-clause-length g c = shorter _ _ 16 64 c.push_step-in-Refetch.ensures.length (lit≤ tt)

pub returns-in-Refetch-clause-spelled : goal.returns-in-Refetch-clause-spelled
returns-in-Refetch-clause-spelled g c = rw c.in-Refetch.is c.push_step-in-Refetch.ensures.spelled
