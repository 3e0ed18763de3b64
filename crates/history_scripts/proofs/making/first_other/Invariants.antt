use Rattle.std.proofs.Common.{◌≡◌}
use Rattle.history_check.specs.Checking.{past_at}
use Rattle.history_scripts.specs.Deciding.{AreGuessedBy}
use Rattle.history_scripts.proofs.making.first_other.Given as goal

-- the core has followed those so far, and all of them are decided as the predictor and the core decide
abbrev pub invariant-loop-index : goal.invariant-loop-index
invariant-loop-index g l =
    (l.core ≡ record l.fn.core { past = past_at l.events l.index })
    × AreGuessedBy g.P.Predict.predicts l.fn.core.setup (past_at l.events l.index)
