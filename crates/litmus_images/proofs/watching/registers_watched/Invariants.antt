use Rattle.std.proofs.Common.{◌≡◌, take}
use Rattle.litmus_images.specs.Watching.{registers_observed}
use Rattle.litmus_images.proofs.watching.registers_watched.Given as goal

abbrev pub invariant-loop-each : goal.invariant-loop-each
invariant-loop-each l = l.registers.items ≡ registers_observed (take l.each-index l.observed)
