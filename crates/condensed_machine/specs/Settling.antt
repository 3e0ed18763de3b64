-- What a hart that follows its local steps comes to, in the words of the definitions' machine.
use Rattle.std.specs.Prelude.{◌≡◌, ℕ, ◌<◌, ◌≤◌, ◌==◌, ◌&&◌, ◌||◌, not, Bool, true, false, None, replicate}
use Rattle.elf_image.specs.Image.{ProgramImage, code_writable}
use Rattle.smt_model.specs.{Setup.Setup, Words.Op, Kinds.kind_of, Plain.Plain, Plain.op_at_pc, Plain.computes}
use Rattle.sc_machine.specs.{Harts.HartAgrees, declared.hart.Hart.Hart}
use Rattle.outcome_laws.specs.{Paths.can_step, Paths.HasItsCode, Tables.Tables, Tables.is_conditional}
use Rattle.outcome_laws.specs.{Local.is_silent, Local.fits, Search.IsLocalPath}
use Rattle.live_registers.specs.{Targets.allows, declared.targets.Targets.Targets}

-- How many local steps are followed at once.
abbrev pub most_local_steps : ℕ
most_local_steps = 1000

-- From s to t no hart has changed but hart h, and no register beyond the last.
pub record HartsStay (h : ℕ) (s t : Plain) : Type 0 where
  pub registers : (g r : ℕ) → (g == h) ≡ false → t.registers g r ≡ s.registers g r
  pub pcs : (g : ℕ) → (g == h) ≡ false → t.pcs g ≡ s.pcs g
  pub statuses : (g : ℕ) → (g == h) ≡ false → t.statuses g ≡ s.statuses g
  pub beyond : (g r : ℕ) → 32 ≤ r → t.registers g r ≡ s.registers g r

-- From s to t nothing has changed but hart h.
pub record OthersStay (h : ℕ) (s t : Plain) : Type 0 where
  pub harts : HartsStay h s t
  pub reserved : (g : ℕ) → t.reserved g ≡ s.reserved g
  pub bytes : (a : ℕ) → t.bytes a ≡ s.bytes a
  pub output : t.output ≡ s.output

-- So many local steps of hart h lead from s to a state in which the hart is y, and nothing else has changed.
pub record GoesOn (setup : Setup) (tables : Tables) (h steps : ℕ) (s : Plain) (y : Hart) : Type 0 where
  pub there : Plain
  pub local : IsLocalPath setup tables (replicate steps h) s there
  pub agrees : HartAgrees there h y
  pub others : OthersStay h s there

-- By the tables jumps by registers go on where these targets say, and each hart may touch anything.
pub record HasTargets (targets : Targets) (tables : Tables) : Type 0 where
  pub targets_are : tables.targets ≡ allows targets
  pub ahead : (h pc what : ℕ) (writes : Bool) → tables.ahead h pc what writes ≡ true

-- Where hart h is told to be free, it has no reservation in s. [This project's choice: reservations are given by LR alone,
-- so an SC of such a hart fails, whatever the others do before it]
abbrev pub IsFree : Bool → ℕ → Plain → Type 0
IsFree free h s = free ≡ true → s.reserved h ≡ None

-- It is SC of a hart that is told to be free.
abbrev pub fails : Bool → Op → Bool
fails free op = free && is_conditional (kind_of op)

-- Whichever hart x is, in whatever state, so many steps make y of it that are local in any tables with these targets; of
-- a hart that is told to be free, where it has no reservation.
abbrev pub LeadsLocally : ProgramImage → Targets → Bool → Hart → ℕ → Hart → Type 0
LeadsLocally image targets free x steps y = (setup : Setup) (tables : Tables) (h : ℕ) (s : Plain)
    → HasTargets targets tables → setup.image ≡ image → h < setup.harts → HasItsCode setup s → HartAgrees s h x
    → IsFree free h s → GoesOn setup tables h steps s y

-- The next step of hart h is followed: the code may not be written, and the step ends or stops its hart, or neither
-- touches memory nor puts a byte out, or is SC of a hart that is told to be free; and it fits. Any such step is local.
abbrev pub is_followed : Setup → Tables → Bool → ℕ → Plain → Bool
is_followed setup tables free h s =
    not (code_writable setup.image)
    && ((is_silent (op_at_pc setup s h) (computes setup s h) || fails free (op_at_pc setup s h))
    && fits setup tables h s)

-- Whichever hart x is, in whatever state, it doesn't go or its next step isn't one that is followed.
abbrev pub StandsStill : ProgramImage → Targets → Bool → Hart → Type 0
StandsStill image targets free x = (setup : Setup) (tables : Tables) (h : ℕ) (s : Plain)
    → HasTargets targets tables → setup.image ≡ image → HasItsCode setup s → HartAgrees s h x
    → (can_step setup h s && is_followed setup tables free h s) ≡ false

-- One local step makes y of x, where one was made; else there is none, and y is x.
abbrev pub StepsLocally : ProgramImage → Targets → Bool → Hart → Bool → Hart → Type 0
StepsLocally image targets free x true y = LeadsLocally image targets free x 1 y
StepsLocally image targets free x false y = StandsStill image targets free x × (y ≡ x)

-- So many local steps make y of x, and no more than may be made; where more may, there is no other.
pub record SettlesAs (image : ProgramImage) (targets : Targets) (free : Bool) (x : Hart) (steps : ℕ) (y : Hart)
    : Type 0 where
  pub leads : LeadsLocally image targets free x steps y
  pub few : steps ≤ most_local_steps
  pub settled : steps < most_local_steps → StandsStill image targets free y
