-- What the steps of a retirement ask and leave: hart h's oldest instruction, as `x` in its active
-- list, and the pictures around the step.
use Rattle.std.specs.Prelude.{◌≡◌, ℕ, ◌<◌, Bool, true, false, not, ◌&&◌, drop, Option, Some, None}
use Rattle.std.specs.List.{AllByRecursion}
use Rattle.events.specs.{declared.effect.Outcome.Outcome, declared.effect.Effect.Effect}
use Rattle.rename_map.specs.Maps.{committed_of, released_after}
use Rattle.retire_squash.specs.{declared.active.Active.Active, declared.active.Stage.Stage}
use Rattle.retire_squash.specs.declared.active.Stage.TheVariants as stage
use Rattle.smt_model.specs.{declared.config.Status.Status, Basics.first, Basics.same_number}
use Rattle.smt_model.specs.{Words.Pc, Fates.Completed, Nexts.is_last, Picture.Picture}
use Rattle.smt_model.specs.{Kinds.destination, Kinds.kind_of, Kinds.is_loading, Plain.status_after}
use Rattle.smt_model.specs.Steps.{IsRetire, IsReplay, IsLeave, IsSquash, IsEnd, IsRefetch, op_in}
use Rattle.smt_model.specs.Steps.{renamed_map}
use Rattle.core_parts.specs.{Agree.IsActive, declared.hart.HartState.HartState}

-- x is the oldest of hart h's flight, and has completed with this outcome.
pub record CanRetire (p : Picture) (h : ℕ) (x : Active) (o : Outcome) : Type 0 where
  pub oldest : first (p.flight h) ≡ Some x.seq
  pub is_active : IsActive p h x
  pub completed : p.fate x.seq ≡ Completed
  pub outcome : p.completion x.seq ≡ Some o

-- The oldest of hart h's flight, if there is one, hasn't completed.
abbrev pub NoneCanRetire : Picture → ℕ → Type 0
NoneCanRetire p h = (s : ℕ) → first (p.flight h) ≡ Some s → p.fate s ≡ Completed → ⊥

-- An instruction that can retire, with what the step needs to know of it: how it stands in the
-- active list, its register, and that all others of the flight are younger.
pub record IsOldestActive (p : Picture) (h : ℕ) (x : Active) : Type 0 where
  pub is_active : IsActive p h x
  pub completed : p.fate x.seq ≡ Completed
  pub rd : x.rd ≡ destination (op_in p x.seq)
  pub range : x.rd < 32
  pub phys : x.phys ≡ p.phys x.seq
  pub younger : AllByRecursion (λ s. x.seq < s) (drop 1 (p.flight h))

-- It retires with this effect, and its hart is fetched from this pc.
pub record Commits (p q : Picture) (h : ℕ) (x : Active) (effect : Effect) (pc : ℕ) : Type 0 where
  pub is_oldest : IsOldestActive p h x
  pub goes_on : is_last effect.next ≡ false
  pub step : IsRetire p q h x.seq effect pc

-- The number that a completion gave its register.
abbrev pub first_value : Stage → Option ℕ
first_value (stage.Completed outcome) = outcome.value
first_value _ = None

-- A load whose number now isn't that of its completion.
abbrev pub is_replay : Active → Effect → Bool
is_replay x effect =
    is_loading (kind_of x.op) && not (same_number (first_value x.stage) effect.value)

-- Such a load retires: all younger ones are squashed, and its hart is fetched from this pc.
pub record Replays (p q : Picture) (h : ℕ) (x : Active) (effect : Effect) (pc : ℕ) : Type 0 where
  pub is_oldest : IsOldestActive p h x
  pub goes_on : is_last effect.next ≡ false
  pub step : IsReplay p q h x.seq effect pc

-- It retires, and its hart stands like this from now on.
pub record Ends (p q : Picture) (h : ℕ) (x : Active) (status : Status) : Type 0 where
  pub is_oldest : IsOldestActive p h x
  pub effect : Effect
  pub stands : status ≡ status_after effect.next (p.status h)
  pub step : IsEnd p q h x.seq effect

-- It doesn't retire: its hart is fetched from its pc again.
pub record Refetches (p q : Picture) (h : ℕ) (x : Active) : Type 0 where
  pub is_oldest : IsOldestActive p h x
  pub step : IsRefetch p q h x.seq x.pc

-- It leaves and commits nothing, and all younger ones are squashed; its hart stands like this and
-- is fetched from this pc.
pub record Abandons (p q : Picture) (h : ℕ) (x : Active) (status : Status) (pc : ℕ) : Type 0 where
  pub is_oldest : IsOldestActive p h x
  pub middle : Picture
  pub leave : IsLeave p middle h x.seq status pc
  pub squash : IsSquash middle q h x.seq

-- It has left like this, before all younger ones are squashed: the hart's map still has its
-- register.
pub record Leaves (p q : Picture) (h : ℕ) (x : Active) (status : Status) (pc : ℕ) : Type 0 where
  pub is_oldest : IsOldestActive p h x
  pub step : IsLeave p q h x.seq status pc
  pub mapped : (r : ℕ) → 0 < r → r < 32 → q.mapped h r ≡ p.mapped h r

-- It retires with this effect: its hart goes on where it was, or behind a load that is replayed, or
-- it ends.
pub record Retires (p q : Picture) (h : ℕ) (x : Active) (effect : Effect) : Type 0 where
  pub is_oldest : IsOldestActive p h x
  pub goes_on : is_last effect.next ≡ false → is_replay x effect ≡ false
      → IsRetire p q h x.seq effect (p.fetch_pc h)
  pub replays : (pc : ℕ) → effect.next ≡ Pc pc → is_replay x effect ≡ true
      → IsReplay p q h x.seq effect pc
  pub ends : is_last effect.next ≡ true → IsEnd p q h x.seq effect

-- The register that was committed for rd before, where there is a new one.
abbrev pub replaced_by : Option ℕ → ℕ → Option ℕ
replaced_by None before = None
replaced_by (Some register) before = Some before

-- A hart has lost its oldest instruction, whose register `phys` is the committed one of rd, and is
-- fetched from this pc.
pub record HasCommitted (old new : HartState) (rd : ℕ) (phys : Option ℕ) (pc : ℕ)
    (replaced : Option ℕ) : Type 0 where
  pub answer : replaced ≡ replaced_by phys (committed_of old.maps rd)
  pub active : new.active ≡ drop 1 old.active
  pub committed : (r : ℕ)
      → committed_of new.maps r ≡ renamed_map rd phys r (committed_of old.maps r)
  pub speculative : new.maps.speculative ≡ old.maps.speculative
  pub kept : new.maps.kept ≡ old.maps.kept
  pub decode_latch : new.decode_latch ≡ old.decode_latch
  pub rename_latch : new.rename_latch ≡ old.rename_latch
  pub icount : new.icount ≡ old.icount
  pub fetch_pc : new.fetch_pc ≡ pc
  pub status : new.status ≡ old.status

-- A hart has lost its oldest instruction, number n, stands like this and is fetched from this pc.
-- No map of a younger one is kept: all of them go with it.
abbrev pub HasLeft : HartState → HartState → ℕ → Status → ℕ → Type 0
HasLeft old new n status pc = new
    ≡ record old {
      active = drop 1 old.active;
      maps = record old.maps { kept = released_after n old.maps.kept };
      fetch_pc = pc;
      status = status;
    }
