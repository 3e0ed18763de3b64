use Rattle.std.specs.Prelude.{◌≡◌, length}
use Rattle.std.specs.List.{sum_by}
use Rattle.core_lock.proofs.held.dealing.gather.Given as goal

-- the passes so far are laid together
abbrev pub invariant-loop-pass : goal.invariant-loop-pass
invariant-loop-pass g l = record {
  parts : l.all.parts ≡ length l.yielded;
  amount : l.all.amount ≡ sum_by (λ p. p.count) l.yielded;
}
