-- What is there when a run has ended.
use Rattle.std.specs.Prelude.{◌≡◌, IsTrue, length, sum}
use Rattle.core_state.specs.View.{CoreView}
use Rattle.smt_core.specs.declared.finished.Finished.{Finished}
use Rattle.smt_core.specs.{Counts.AreCounts, Shown.Shown}

-- The actors of a run have asked this core, and nothing else did: it is of the same setup and
-- limit still. The counts add up to its events, and each is its actor's where that is told.
pub record HasRun (core : CoreView) (finished : Finished) : Type 0 where
  pub setup : finished.core.setup ≡ core.setup
  pub limit : finished.core.limit ≡ core.limit
  pub own : IsTrue finished.own
  pub counted : sum finished.counts ≡ length finished.core.past
  pub told : IsTrue finished.told → AreCounts finished.core.past finished.counts
  pub shown : Shown finished.core
