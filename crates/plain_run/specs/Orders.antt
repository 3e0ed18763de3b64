-- What the steps of an order of harts come to, in the words of the definitions' machine. An order
-- has its first step first; the definitions read it the other way round.
use Rattle.std.specs.Prelude.{◌≡◌, ◌≢◌, ℕ, ◌<◌, List, length, map, reverse, take, slice_index}
use Rattle.std.specs.Prelude.{Some, None}
use Rattle.elf_image.specs.Image.{ProgramImage}
use Rattle.smt_model.specs.{Basics.below, Setup.Setup, Plain.Run, Plain.run}
use Rattle.sc_machine.specs.{Machine.Agrees, Refusals.refusal}
use Rattle.sc_machine.specs.declared.refused.Stopped.{Stopped}
use Rattle.sc_machine.specs.declared.refused.Stopped.TheVariants.{OutputFull}
use Rattle.plain_run.specs.{Left.Left, declared.stopped.OrderStopped.OrderStopped}
use Rattle.plain_run.specs.declared.stopped.OrderStopped.TheVariants.{Step}

-- It is so of every setup with this image and these harts.
abbrev pub OfEachSetup : ProgramImage → ℕ → (Setup → Type 0) → Type 0
OfEachSetup image harts P =
    (setup : Setup) → setup.image ≡ image → setup.harts ≡ harts → P setup

-- The definitions' machine runs the whole order. It leaves these records, puts out these bytes and
-- leaves the harts with these statuses; and the machine that is left agrees with it.
pub record HasLeft (setup : Setup) (order : List ℕ) (left : Left) : Type 0 where
  pub ran : Run
  pub runs : run setup (reverse order) ≡ Some ran
  pub records : left.records ≡ reverse ran.records
  pub output : left.machine.output ≡ ran.state.output
  pub statuses : left.statuses ≡ map ran.state.statuses (below setup.harts)
  pub agrees : Agrees setup ran.state left.machine

-- The definitions' machine runs the order up to this step, and refuses the step; so it has no run
-- of the whole order.
pub record IsRefusedAt (setup : Setup) (order : List ℕ) (index : ℕ) (why : Stopped) : Type 0 where
  pub before : Run
  pub runs : run setup (reverse (take index order)) ≡ Some before
  pub refused : refusal setup (length order) before.state (slice_index order index) ≡ Some why
  pub undefined : run setup (reverse order) ≡ None

-- The order stops at a step of its own, and not for want of room for the output.
pub record IsStoppedAt (image : ProgramImage) (harts : ℕ) (order : List ℕ) (index : ℕ)
    (why : Stopped) : Type 0 where
  pub inside : index < length order
  pub not_full : why ≢ OutputFull
  pub at : OfEachSetup image harts (λ setup. IsRefusedAt setup order index why)

abbrev pub IsStoppedFor : ProgramImage → ℕ → List ℕ → OrderStopped → Type 0
IsStoppedFor image harts order (Step index why) = IsStoppedAt image harts order index why
IsStoppedFor image harts order _ = Unit {0}
