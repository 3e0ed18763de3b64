-- What one instruction of a hart does, and where the hart goes on to, in the words of the definitions' machine.
use Rattle.std.specs.Prelude.{◌≡◌, ℕ, ◌<◌, ◌==◌, ◌&&◌, not, Bool, true, false, None}
use Rattle.elf_image.specs.Image.{ProgramImage}
use Rattle.smt_model.specs.{Setup.Setup, Bytes.byte_after, Reservations.reservation_after}
use Rattle.smt_model.specs.Plain.{Plain, op_at_pc, computes, effect_at, output_after}
use Rattle.outcome_laws.specs.Paths.{stepped}
use Rattle.sc_machine.specs.{Harts.HartAgrees, declared.hart.Hart.Hart}
use Rattle.changed_memory.specs.Shared.{Shared, byte_at, reserved_at}
use Rattle.condensed_machine.specs.{Settling.SettlesAs, Resting.IsRested, Machine.Program}
use Rattle.condensed_machine.specs.declared.executed.Executed.{Executed}

-- What the harts share is so in s.
pub record SharedAgrees (image : ProgramImage) (s : Plain) (shared : Shared) : Type 0 where
  pub reserved : (h : ℕ) → reserved_at shared h ≡ s.reserved h
  pub bytes : (a : ℕ) → byte_at image shared a ≡ s.bytes a
  pub output : shared.output ≡ s.output

-- It is so of each state in which hart h is x, and what harts share is this.
abbrev pub InEachState : Program → ℕ → Hart → Shared → (Setup → Plain → Type 0) → Type 0
InEachState p h x shared P = (setup : Setup) (s : Plain) → setup.image ≡ p.image → h < setup.harts
    → HartAgrees s h x → SharedAgrees p.image s shared → P setup s

-- It is what hart h's next instruction does in s.
pub record IsExecuted (setup : Setup) (s : Plain) (h : ℕ) (e : Executed) : Type 0 where
  pub op : e.op ≡ op_at_pc setup s h
  pub addr : e.addr ≡ (computes setup s h).addr
  pub effect : e.effect ≡ effect_at setup s h

-- A hart that is told to be free is taken as free, unless that its SC is followed is left out.
abbrev pub taken_free : Program → Bool → Bool
taken_free p free = free && not p.without.conditional

-- So many local steps lead from x, which may be told to be free, to a hart that is y but for registers that aren't kept.
pub record ComesToRest (p : Program) (free : Bool) (x : Hart) (steps : ℕ) (y : Hart) : Type 0 where
  pub moved : Hart
  pub settles : SettlesAs p.image p.targets (taken_free p free) x steps moved
  pub rested : IsRested p.live p.watched moved y

-- Hart h is y behind its step from s.
abbrev pub IsBehind : Setup → Plain → ℕ → Hart → Type 0
IsBehind setup s h y = HartAgrees (stepped setup h s) h y

-- The reservation of hart g needn't be kept behind a step of hart h, behind which that hart's is kept or isn't.
abbrev pub is_dropped : ℕ → Bool → ℕ → Bool
is_dropped h kept g = g == h && not kept

-- The shared parts behind an instruction of hart h. Where the hart's reservation isn't kept it has none.
pub record SharedAfter (image : ProgramImage) (h : ℕ) (e : Executed) (kept : Bool) (old new : Shared) : Type 0 where
  pub reserved : (g : ℕ) → is_dropped h kept g ≡ false
      → reserved_at new g ≡ reservation_after e.op e.addr e.effect (g == h) (reserved_at old g)
  pub dropped : (g : ℕ) → is_dropped h kept g ≡ true → reserved_at new g ≡ None
  pub bytes : (a : ℕ) → byte_at image new a ≡ byte_after e.effect.write a (byte_at image old a)
  pub output : new.output ≡ output_after e.effect.out old.output
