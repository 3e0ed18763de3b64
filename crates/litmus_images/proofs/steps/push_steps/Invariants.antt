use Rattle.std.proofs.Common.{◌≡◌, ◌++◌}
use Rattle.std.specs.Prelude.{flat_map}
use Rattle.smt_model.specs.Basics.{below}
use Rattle.litmus_images.specs.Steps.{words_at}
use Rattle.litmus_images.proofs.steps.push_steps.Given as goal

abbrev pub invariant-loop-index : goal.invariant-loop-index
invariant-loop-index l = l.code.items ≡ l.initial.code.items ++ flat_map (words_at l.steps) (below l.index)
