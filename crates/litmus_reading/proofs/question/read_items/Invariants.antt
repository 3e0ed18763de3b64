use Rattle.std.proofs.Common.{length}
use Rattle.litmus_reading.proofs.ItemsRead.{ItemsSoFar}
use Rattle.litmus_reading.proofs.question.read_items.Given as goal

-- what has been read so far, and what is left
abbrev pub invariant-loop-listed : goal.invariant-loop-listed
invariant-loop-listed l = ItemsSoFar l.asked.harts l.words l.rest l.listed.observed.items l.listed.whole.items

abbrev pub decreases-loop-listed : goal.decreases-loop-listed
decreases-loop-listed l = length l.rest
