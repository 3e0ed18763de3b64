use Rattle.std.specs.Prelude.{◌≡◌, map, length}
use Rattle.std.proofs.Common.{take}
use Rattle.numbers.specs.Sizes.{most_actors}
use Rattle.core_lock.proofs.held.dealing.counts_of.Given as goal

-- the counts of the passes so far are written
abbrev pub invariant-loop-place : goal.invariant-loop-place
invariant-loop-place g l = record {
  written : take l.place l.counts ≡ map (λ p. p.count) (take l.place l.passes);
  row : length l.counts ≡ most_actors;
}
