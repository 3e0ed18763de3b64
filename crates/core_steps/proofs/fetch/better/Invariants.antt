-- The best among the harts so far, which is one of them.
use Rattle.std.proofs.Common.{◌≡◌, ◌<◌, length}
use Rattle.std.specs.Prelude.{IfSome}
use Rattle.core_steps.specs.Fetch.{better_of, from_to}
use Rattle.core_steps.proofs.fetch.better.Given as goal

abbrev pub invariant-loop-hart : goal.invariant-loop-hart
invariant-loop-hart l =
    (l.best ≡ better_of l.harts l.fn.best (from_to l.from l.hart)) × IfSome l.best (λ h. h < length l.harts)
