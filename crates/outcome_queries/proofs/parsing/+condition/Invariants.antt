use Rattle.std.proofs.Common.{◌+◌, ◌*◌, length}
use Rattle.outcome_queries.proofs.parsing.+condition.Given as goal

-- what is cut and what stands behind a sign is shorter; all of a text may stand alone
abbrev pub decreases-read_alone : goal.decreases-read_alone
decreases-read_alone l = 3 * length l.text.now

abbrev pub decreases-read_part : goal.decreases-read_part
decreases-read_part l = 3 * length l.text.now + 1

abbrev pub decreases-read_inner : goal.decreases-read_inner
decreases-read_inner l = 3 * length l.text.now + 2
