use Rattle.std.proofs.Common.{◌≡◌, ◌≤◌, ◌+◌, ◌-◌, ◌*◌, length, take}
use Rattle.std.specs.Prelude.{flat_map}
use Rattle.numbers.specs.Sizes.{most_harts}
use Rattle.litmus_images.specs.Code.{thread_words}
use Rattle.litmus_images.proofs.code.block_place.Given as goal

abbrev pub invariant-loop-other : goal.invariant-loop-other
invariant-loop-other l = record {
  counted : l.place ≡ 3 * (length l.threads - 1) + 1 + length (flat_map thread_words (take l.other l.threads));
  small : l.place ≤ 3 * most_harts + 1064 * l.other;
}
