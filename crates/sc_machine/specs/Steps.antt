-- What the calls of the machine come to, in the words of the definitions' machine.
use Rattle.std.specs.Prelude.{◌≡◌, ℕ, List, [], ◌∷◌, Option, Some, None, length, nat_le, ◌&&◌, Bool}
use Rattle.numbers.specs.Sizes.{most_harts}
use Rattle.elf_image.specs.Image.{ProgramImage}
use Rattle.smt_model.specs.{Words.Record, Setup.Setup}
use Rattle.smt_model.specs.Plain.{Run, start, record_at, advance, step, run}
use Rattle.sc_machine.specs.{Machine.Machine, Machine.Agrees, Refusals.refusal}

-- ---- A new machine

-- There may be 1 to `most_harts` harts.
abbrev pub are_harts : ℕ → Bool
are_harts harts = nat_le 1 harts && nat_le harts most_harts

-- The machine of so many harts stands at the start of an image, with room for so many bytes.
pub record IsNew (image : ProgramImage) (harts room : ℕ) (m : Machine) : Type 0 where
  pub room_is : m.room ≡ room
  pub count : length m.harts ≡ harts
  pub agrees : (setup : Setup) → setup.image ≡ image → setup.harts ≡ harts → Agrees setup (start setup) m

-- ---- One step

-- It is so of every run that ends in a state with which the machine agrees.
abbrev pub InEachRun : Machine → (Setup → Run → Type 0) → Type 0
InEachRun m P = (setup : Setup) (before : Run) → Agrees setup before.state m → P setup before

-- Hart h's step was made, with room for so many bytes: the definitions' machine makes it too, with
-- this record, and the machine agrees with where that stands now.
pub record IsStep (setup : Setup) (room : ℕ) (before : Run) (h : ℕ) (said : Record)
    (m : Machine) : Type 0 where
  pub goes : refusal setup room before.state h ≡ None
  pub made : step setup h (Some before) ≡ Some (advance setup h before)
  pub said_is : said ≡ record_at setup before.state h
  pub agrees : Agrees setup (advance setup h before).state m

-- ---- An order of harts, the newest first

-- The run goes on from another run.
abbrev pub run_on : Setup → List ℕ → Run → Option Run
run_on setup [] before = Some before
run_on setup (h ∷ order) before = step setup h (run_on setup order before)

-- The definitions' machine makes these steps, and the machine agrees with where that stands then.
pub record HasRun (setup : Setup) (order : List ℕ) (before : Run) (m : Machine) : Type 0 where
  pub after : Run
  pub runs : run_on setup order before ≡ Some after
  pub agrees : Agrees setup after.state m

-- The machine `old` has become `new` by these steps.
abbrev pub Runs : List ℕ → Machine → Machine → Type 0
Runs order old new = InEachRun old (λ setup before. HasRun setup order before new)

-- To go on from the start is to run.
abbrev pub GoesOnFromTheStart : Type 0
GoesOnFromTheStart = (setup : Setup) (order : List ℕ)
    → run_on setup order (record { records = []; state = start setup }) ≡ run setup order
