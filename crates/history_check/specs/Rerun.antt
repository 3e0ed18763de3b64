-- A run of the plain machine that comes to what a core's account says.
use Rattle.std.specs.Prelude.{◌≡◌, ℕ, List, map, reverse}
use Rattle.smt_model.specs.{Account.order, Account.records, Basics.below, Memory.output, Memory.status}
use Rattle.core_state.specs.View.{CoreView}
use Rattle.sc_machine.specs.declared.refused.Stopped.{Stopped}
use Rattle.plain_run.specs.{Left.Left, Orders.IsStoppedAt}

-- Its records are those of what has retired in the core, the oldest first; its output and its
-- statuses are the core's.
pub record IsAccountOf (core : CoreView) (run : Left) : Type 0 where
  pub records_are : run.records ≡ reverse (records core.past)
  pub output_is : run.machine.output ≡ output core.past
  pub statuses_are : run.statuses ≡ map (status core.past) (below core.setup.harts)

-- The harts of what has retired in the core, the oldest first: the plain machine of its image and its harts stops at
-- none of these steps.
pub record IsRetirementOrder (core : CoreView) (harts : List ℕ) : Type 0 where
  pub reversed : reverse harts ≡ order core.past
  pub unstopped : (index : ℕ) (why : Stopped)
      → IsStoppedAt core.setup.image core.setup.harts harts index why → ⊥
