use Rattle.std.proofs.Common.{◌≡◌, ◌++◌}
use Rattle.std.specs.Prelude.{flat_map}
use Rattle.smt_model.specs.Basics.{below}
use Rattle.litmus_images.specs.Code.{turn_words}
use Rattle.litmus_images.proofs.code.push_dispatch.Given as goal

abbrev pub invariant-loop-hart : goal.invariant-loop-hart
invariant-loop-hart l = l.code.items ≡ l.initial.code.items ++ flat_map (turn_words l.threads) (below l.hart)
