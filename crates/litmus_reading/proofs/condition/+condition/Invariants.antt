use Rattle.std.proofs.Common.{◌+◌, ◌*◌, length}
use Rattle.litmus_reading.proofs.Connectives.{conjoins, conjoins_so, disjoins, disjoins_so, equates, equates_so}
use Rattle.litmus_reading.proofs.JoinedRead.{SoFar}
use Rattle.litmus_reading.proofs.condition.+condition.Given as goal

-- each level of nesting calls all five, the one for `<=>` first, and what stands behind a `=>` is shorter
abbrev pub decreases-read_alone : goal.decreases-read_alone
decreases-read_alone l = 5 * l.room + length l.words.now

abbrev pub decreases-read_both : goal.decreases-read_both
decreases-read_both l = 5 * l.room + 1 + length l.words.now

abbrev pub decreases-read_either : goal.decreases-read_either
decreases-read_either l = 5 * l.room + 2 + length l.words.now

abbrev pub decreases-read_implied : goal.decreases-read_implied
decreases-read_implied l = 5 * l.room + 3 + length l.words.now

abbrev pub decreases-read_condition : goal.decreases-read_condition
decreases-read_condition l = 5 * l.room + 4 + length l.words.now

abbrev pub invariant-read_both-loop-behind : goal.invariant-read_both-loop-behind
invariant-read_both-loop-behind l = SoFar conjoins conjoins_so l.asked.harts l.room l.fn.leaves.count l.words l.condition
    l.rest l.leaves.count

abbrev pub decreases-read_both-loop-behind : goal.decreases-read_both-loop-behind
decreases-read_both-loop-behind l = length l.rest

abbrev pub invariant-read_either-loop-behind : goal.invariant-read_either-loop-behind
invariant-read_either-loop-behind l = SoFar disjoins disjoins_so l.asked.harts l.room l.fn.leaves.count l.words l.condition
    l.rest l.leaves.count

abbrev pub decreases-read_either-loop-behind : goal.decreases-read_either-loop-behind
decreases-read_either-loop-behind l = length l.rest

abbrev pub invariant-read_condition-loop-behind : goal.invariant-read_condition-loop-behind
invariant-read_condition-loop-behind l = SoFar equates equates_so l.asked.harts l.room l.fn.leaves.count l.words l.condition
    l.rest l.leaves.count

abbrev pub decreases-read_condition-loop-behind : goal.decreases-read_condition-loop-behind
decreases-read_condition-loop-behind l = length l.rest
