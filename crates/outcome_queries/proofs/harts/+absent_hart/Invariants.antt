use Rattle.std.proofs.Common.{length}
use Rattle.outcome_queries.proofs.harts.+absent_hart.Given as goal

-- a term fewer at each call
abbrev pub decreases-absent_hart : goal.decreases-absent_hart
decreases-absent_hart l = length l.terms.now
