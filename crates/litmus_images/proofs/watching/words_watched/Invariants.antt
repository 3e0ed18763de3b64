use Rattle.std.proofs.Common.{◌≡◌, take}
use Rattle.litmus_images.specs.Watching.{words_observed}
use Rattle.litmus_images.proofs.watching.words_watched.Given as goal

abbrev pub invariant-loop-each : goal.invariant-loop-each
invariant-loop-each l = l.words.items ≡ words_observed l.locations (take l.each-index l.observed)
