-- What the tests of the rules ask, in the words of the code.
use Rattle.std.specs.Prelude.{◌≡◌, ℕ, Bool, not, ◌||◌, ◌&&◌, nat_lt, if◌then◌else◌, List, [], ◌∷◌}
use Rattle.std.specs.Prelude.{Option, Some, None}
use Rattle.std.specs.Prelude.{is_some, is_none}
use Rattle.events.specs.{declared.event.Event.Event, declared.effect.Outcome.Outcome}
use Rattle.rv_instr.specs.declared.op.UnitKind.{UnitKind}
use Rattle.exec_units.specs.Job.{JobView}
use Rattle.issue_queue.specs.declared.entry.Entry.{Entry}
use Rattle.retire_squash.specs.{declared.active.Active.Active, declared.active.Stage.Stage}
use Rattle.retire_squash.specs.declared.active.Stage.TheVariants as stage
use Rattle.smt_model.specs.{Basics.holds_of, Jobs.is_actor, Jobs.job, Jobs.unit_of_actor}
use Rattle.smt_model.specs.{Fates.Completed, Fates.fate, Fates.is, Flights.flight, Picture.Picture}
use Rattle.smt_model.specs.{Rules.is_first, Rules.of_fetched}
use Rattle.smt_model.specs.{Registers.is_unclaimed, Setup.Setup, Setup.registers_of}
use Rattle.core_parts.specs.{Agree.IsEntry, Agree.IsOpenJob, Place.InActiveList}
use Rattle.core_parts.specs.{declared.slot.OpenJob.OpenJob}

-- Nothing is taken, or a free register.
abbrev pub is_free_or_none : Setup → List Event → Option ℕ → Bool
is_free_or_none setup past taken =
    not (is_some taken)
    || holds_of (λ p. nat_lt p (registers_of setup) && is_unclaimed setup past p) taken

-- The kind of unit that an actor is, where it is one and has no job.
abbrev pub idle_unit : Setup → List Event → ℕ → Option UnitKind
idle_unit setup past actor =
    if is_none (job past actor) then unit_of_actor setup actor else None

-- The entry of instruction s.
pub record IsEntryOf (p : Picture) (s : ℕ) (e : Entry) : Type 0 where
  pub entry : IsEntry p e
  pub number : e.seq ≡ s

-- Actor k's open job, which is of instruction s.
pub record IsJobWith (p : Picture) (k s : ℕ) (x : OpenJob) : Type 0 where
  pub opened : IsOpenJob p k x
  pub number : x.seq ≡ s

-- The job as its actor has it.
abbrev pub open_view : OpenJob → JobView
open_view x = record { seq = x.seq; op = x.op; pc = x.pc; first = x.first; second = x.second }

-- The outcome of a completed instruction.
abbrev pub outcome_at : Stage → Option Outcome
outcome_at (stage.Completed outcome) = Some outcome
outcome_at _ = None

-- The rules that a retirement and a refetch have in common: the instruction is completed and the
-- oldest of its hart.
abbrev pub rules_of_oldest : Setup → List Event → ℕ → ℕ → List (ℕ × Bool)
rules_of_oldest setup past actor seq =
    (1, is_actor setup actor)
    ∷ (2, is (fate past seq) Completed)
    ∷ (3, of_fetched past seq (λ f. is_first seq (flight past f.hart))) ∷ []
