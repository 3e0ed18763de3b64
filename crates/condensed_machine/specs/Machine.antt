-- What a machine has that numbers the parts of its states.
use Rattle.std.specs.Prelude.{◌≡◌, ℕ, ◌<◌, ◌≤◌, ◌||◌, Bool, true, false, List, length, Some, slice_index, slice_get}
use Rattle.numbers.specs.Sizes.{most_harts}
use Rattle.elf_image.specs.Image.{ProgramImage, code_writable}
use Rattle.smt_model.specs.{Setup.Setup}
use Rattle.smt_laws.specs.Code.{HoldsItsCode}
use Rattle.outcome_laws.specs.Tables.{Tables, IsTables}
use Rattle.live_registers.specs.{Table.live_of, Table.kept_of, Targets.allows}
use Rattle.live_registers.specs.declared.targets.{Jump.Jump, Targets.Targets}
use Rattle.live_registers.specs.declared.table.LiveTable.{LiveTable}
use Rattle.sc_machine.specs.declared.hart.Hart.{Hart}
use Rattle.changed_memory.specs.Shared.{Shared, byte_at}
use Rattle.reductions.specs.declared.without.Without.{Without}

-- What is searched: an image, how many harts run it, which registers are wanted of each at its end, by their
-- numbers; where jumps by registers go on, and, if they do, which registers may be read yet at each pc, and where a
-- reservation may be used yet; and which reductions are left out.
pub record Program : Type 0 where
  pub image : ProgramImage
  pub harts : ℕ
  pub watched : List Bool
  pub targets : Targets
  pub live : LiveTable
  pub without : Without

-- A reservation is kept at a pc: it may be used yet; or the reduction by which others are dropped is left out.
abbrev pub keeps_at : Program → ℕ → Bool
keeps_at p pc = p.without.conditional || kept_of p.live pc

-- What is known ahead of each step: where a jump by a register goes on, which registers are live, and where a
-- reservation is kept. All else is as in any program.
abbrev pub tables_of : Program → Tables
tables_of p = record {
  live = live_of p.live;
  kept = keeps_at p;
  targets = allows p.targets;
  ahead = λ h pc what writes. true;
  rewritten = λ word. true;
  seen = λ word. true;
}

-- There are harts, and no more than there may be; each register is watched or isn't; where the code may be written any
-- word of it may become a jump, which may go anywhere; the tables are good.
pub record IsSound (p : Program) : Type 0 where
  pub some : 0 < p.harts
  pub few : p.harts ≤ most_harts
  pub registers : length p.watched ≡ 32
  pub writable : code_writable p.image ≡ true → p.targets.anywhere ≡ true
  pub tables : IsTables p.image (tables_of p)

-- The program, and the harts and shared parts found so far, the numbers of the harts behind the first ones of a state,
-- and rows of how many local steps each hart made behind a step of another. The number of one is its place.
pub record Machine : Type 0 where
  pub program : Program
  pub hart_states : List Hart
  pub far_harts : List (List ℕ)
  pub shared_states : List Shared
  pub rows : List (List ℕ)

-- x0 stands as 0 in each hart.
abbrev pub HaveZero : List Hart → Type 0
HaveZero xs = (n : ℕ) (x : Hart) → slice_get xs n ≡ Some x → slice_index x.registers 0 ≡ 0

-- In shared parts code that may not be written is what the image has.
abbrev pub HasCode : ProgramImage → Shared → Type 0
HasCode image x = code_writable image ≡ false → HoldsItsCode image (byte_at image x)

abbrev pub HaveCode : ProgramImage → List Shared → Type 0
HaveCode image xs = (n : ℕ) (x : Shared) → slice_get xs n ≡ Some x → HasCode image x

-- What is old keeps its place.
abbrev pub Keeps : {A : Type 0} → List A → List A → Type 0
Keeps {A} old new = (n : ℕ) (x : A) → slice_get old n ≡ Some x → slice_get new n ≡ Some x

-- The machine has learned: it has the same program, and what it had keeps its place.
pub record Grows (m n : Machine) : Type 0 where
  pub program : n.program ≡ m.program
  pub hart_states : Keeps m.hart_states n.hart_states
  pub far_harts : Keeps m.far_harts n.far_harts
  pub shared_states : Keeps m.shared_states n.shared_states
  pub rows : Keeps m.rows n.rows

-- It is so of each setup with the program's image and harts.
abbrev pub InEachSetup : Program → (Setup → Type 0) → Type 0
InEachSetup p P = (setup : Setup) → setup.image ≡ p.image → setup.harts ≡ p.harts → P setup

-- The table of targets lacks a jump: it isn't one by which each may go anywhere, and doesn't list this one.
abbrev pub IsLacking : Targets → Jump → Type 0
IsLacking targets jump = (targets.anywhere ≡ false) × (allows targets jump.from jump.to ≡ false)

-- The machine refuses a step only for such a jump.
abbrev pub MayLack : Machine → Jump → Type 0
MayLack m jump = IsLacking m.program.targets jump

-- The machine of so many harts that run an image, and of which these registers are watched, without these reductions. It
-- goes by the table of targets that it was given, unless the code may be written.
pub record IsNew (image : ProgramImage) (harts : ℕ) (watched : List Bool) (targets : Targets) (without : Without)
    (m : Machine) : Type 0 where
  pub image_is : m.program.image ≡ image
  pub count : m.program.harts ≡ harts
  pub watched_are : m.program.watched ≡ watched
  pub without_is : m.program.without ≡ without
  pub anywhere : targets.anywhere ≡ true → m.program.targets.anywhere ≡ true
  pub targets_are : code_writable image ≡ false → m.program.targets ≡ targets
  pub sound : IsSound m.program
