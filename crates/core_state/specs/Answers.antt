-- What a step of the state answers, in the words of the rules: which event it made, or that none
-- could be made.
use Rattle.std.specs.Prelude.{◌≡◌, ℕ, ◌<◌, true, false, List, Option, Some, None, is_some}
use Rattle.events.specs.{declared.event.Event.Event, declared.event.Event.TheVariants.Fetch}
use Rattle.events.specs.{declared.event.Event.TheVariants.Rename}
use Rattle.exec_units.specs.Job.{JobView}
use Rattle.smt_model.specs.{Setup.Setup, Kinds.first_source, Kinds.second_source, Registers.operand}
use Rattle.smt_model.specs.{Rules.refused, Jobs.job, Asks.Ask, Asks.answers, Picture.is_free}
use Rattle.smt_model.specs.Fates.{Fetched, fetching, fetches, op_of_fetched}
use Rattle.core_steps.specs.declared.point.FetchPoint.{FetchPoint}

-- No event that answers this ask is allowed.
abbrev pub AllowsNone : Setup → Ask → List Event → Type 0
AllowsNone setup ask past =
    (e : Event) → answers ask past e ≡ true → is_some (refused setup past e) ≡ true

-- The fetch by an actor at this point: it takes the next number, and goes on where it is predicted
-- to.
abbrev pub fetched_at : ℕ → FetchPoint → ℕ → List Event → Event
fetched_at actor point predicted past =
    Fetch actor point.hart (fetches past) point.pc point.word predicted

-- The actor may fetch there, whatever is predicted.
abbrev pub CanFetch : Setup → List Event → ℕ → FetchPoint → Type 0
CanFetch setup past actor point =
    (predicted : ℕ) → refused setup past (fetched_at actor point predicted past) ≡ None

-- The register that a rename takes is the least free one.
abbrev pub IsLeastFree : Setup → List Event → Option ℕ → Type 0
IsLeastFree setup past None = Unit {0}
IsLeastFree setup past (Some x) = (y : ℕ) → y < x → is_free setup past y ≡ false

abbrev pub TakesLeast : Setup → List Event → Event → Type 0
TakesLeast setup past (Rename actor seq phys) = IsLeastFree setup past phys
TakesLeast setup past _ = Unit {0}

-- The job is the one that actor k has open: its number, its instruction and pc as they were
-- fetched, and its operands.
pub record IsJobOf (setup : Setup) (past : List Event) (k : ℕ) (view : JobView) : Type 0 where
  pub lent : job past k ≡ Some view.seq
  pub instruction : Fetched
  pub fetched : fetching past view.seq ≡ Some instruction
  pub pc : view.pc ≡ instruction.pc
  pub op : view.op ≡ op_of_fetched (Some instruction)
  pub first : operand setup first_source past view.seq ≡ Some view.first
  pub second : operand setup second_source past view.seq ≡ Some view.second

-- It isn't that job.
abbrev pub IsStrange : Setup → List Event → ℕ → JobView → Type 0
IsStrange setup past k view = IsJobOf setup past k view → ⊥
