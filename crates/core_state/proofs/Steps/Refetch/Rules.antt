-- The history's side of a refetch: the oldest instruction of a flight, where it is completed, may be fetched again where
-- memory has another word there now, and the picture then changes by that step.
use Rattle.std.specs.Prelude.{◌≡◌, ℕ, ◌≤◌, Bool, true, false, not, List, ◌∷◌, None}
use Rattle.std.proofs.Common.{ap}
use Rattle.numbers.specs.Sizes.{most_registers}
use Rattle.events.specs.{declared.effect.Outcome.Outcome, declared.event.Event.Event}
use Rattle.events.specs.declared.event.Event.TheVariants.{Refetch}
use Rattle.retire_squash.specs.declared.active.Active.{Active}
use Rattle.smt_model.specs.{Fates.Completed, Fates.is, Jobs.is_actor, Picture.picture, Setup.Setup}
use Rattle.smt_model.specs.{Setup.registers_of}
use Rattle.smt_model.specs.Rules.{is_fresh, is_legal, refused}
use Rattle.smt_model.proofs.Allowed.{refetch_allows}
use Rattle.smt_laws.proofs.Steps.Refetch.{steps-Refetch}
use Rattle.core_steps.specs.Retirement.{CanRetire, Refetches}
use Rattle.core_state.proofs.Steps.Retire.Look.{fetched_of, at_fetched, oldest_in}
use Rattle.core_state.proofs.Steps.Retire.Rules.{oldest_is, is_its_own}

pub refetches_now : (setup : Setup) (past : List Event) (actor h : ℕ) → is_actor setup actor ≡ true
    → (x : Active) (o : Outcome) → CanRetire (picture setup past) h x o
    → is_fresh setup past (fetched_of h x) ≡ false → refused setup past (Refetch actor x.seq) ≡ None
refetches_now setup past actor h there x o can stale =
    refetch_allows setup past actor x.seq (record {
      actor_is = there;
      fated = ap (λ y. is y Completed) can.completed;
      oldest = oldest_in setup past h x o can;
      stale =
          at_fetched past x.seq (λ g. not (is_fresh setup past g)) (fetched_of h x) can.is_active.fetched
          (ap not stale);
    })

pub refetches_by : (setup : Setup) (past : List Event) → is_legal setup past → registers_of setup ≤ most_registers
    → (actor h : ℕ) (x : Active) (o : Outcome) → CanRetire (picture setup past) h x o
    → refused setup past (Refetch actor x.seq) ≡ None
    → Refetches (picture setup past) (picture setup (Refetch actor x.seq ∷ past)) h x
refetches_by setup past legal fit actor h x o can ok = record {
  is_oldest = oldest_is setup past legal h x o can;
  step =
      steps-Refetch setup past legal actor x.seq ok fit h (is_its_own setup past h x o can) (fetched_of h x)
      can.is_active.fetched;
}
