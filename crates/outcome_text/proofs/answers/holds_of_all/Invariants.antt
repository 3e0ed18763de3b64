use Rattle.std.proofs.Common.{◌≡◌, true, take}
use Rattle.std.specs.List.{list_all}
use Rattle.outcome_text.specs.Answers.{holds_of}
use Rattle.outcome_text.proofs.answers.holds_of_all.Given as goal

-- it holds of all so far
abbrev pub invariant-loop-index : goal.invariant-loop-index
invariant-loop-index l = list_all (holds_of l.watch l.condition) (take l.index l.outcomes.listed) ≡ true
