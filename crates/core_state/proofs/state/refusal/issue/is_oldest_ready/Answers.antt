-- The oldest ready entry, if there is one, says whether a ready one has a lower number.
use Rattle.std.proofs.Common.{refl}
use Rattle.core_state.proofs.Following.Issue.{none_oldest, oldest_passes}
use Rattle.core_state.proofs.state.refusal.issue.is_oldest_ready.Goals as goal

pub returns-in-None : goal.returns-in-None
returns-in-None c = none_oldest c.args.kind c.args.seq c.args.queue.now.entries c.in-None.ensures.value

pub returns-in-Some : goal.returns-in-Some
returns-in-Some c =
    oldest_passes c.args.kind c.args.seq c.in-Some.oldest c.args.queue.now.entries c.in-Some.ensures.value
    c.in-Some.ensures.oldest _ refl
