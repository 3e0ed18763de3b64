use Rattle.std.proofs.Common.{◌≡◌, false, take}
use Rattle.std.specs.List.{list_any}
use Rattle.outcome_text.specs.Answers.{holds_of}
use Rattle.outcome_text.proofs.answers.holds_of_any.Given as goal

-- it holds of none so far
abbrev pub invariant-loop-index : goal.invariant-loop-index
invariant-loop-index l = list_any (holds_of l.watch l.condition) (take l.index l.outcomes.listed) ≡ false
