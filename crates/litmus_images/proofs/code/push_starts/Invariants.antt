use Rattle.std.proofs.Common.{◌≡◌, ◌++◌, take}
use Rattle.std.specs.Prelude.{flat_map}
use Rattle.litmus_images.specs.Code.{start_words}
use Rattle.litmus_images.proofs.code.push_starts.Given as goal

abbrev pub invariant-loop-start : goal.invariant-loop-start
invariant-loop-start l = l.code.items ≡ l.initial.code.items ++ flat_map start_words (take l.start-index l.starts)
