-- By which search the states were counted. [This project's own choice: a number of states is that of a search with these
-- reductions left out, and of no other one]
use Rattle.std.specs.Prelude.{◌≡◌, ℕ, Bool, true, Contains, length}
use Rattle.elf_image.specs.Image.{ProgramImage}
use Rattle.reductions.specs.declared.without.Without.{Without}
use Rattle.searches.specs.{Found.Found as Graph, Found.IsExplored}
use Rattle.condensed_machine.specs.{Machine.Machine, Machine.Program, Machine.IsSound, Decoded.Knows, Distinct.AreDistinct}
use Rattle.condensed_machine.specs.Steps.{Steps, HasBegun}
use Rattle.condensed_machine.specs.declared.{begun.Begun.Begun, state.State.State, way.Way.Way}
use Rattle.outcomes.specs.Found.{Found}

-- A machine of the program without these reductions, whose jumps by registers may go anywhere where that is said, has
-- gone from its start through the states that are told of, within this budget; no two of them are alike to it.
pub record IsSearchedWith (image : ProgramImage) (harts : ℕ) (without : Without) (anywhere : Bool) (budget : ℕ)
    (found : Found) : Type 0 where
  pub machine : Machine
  pub sound : IsSound machine.program
  pub image_is : machine.program.image ≡ image
  pub harts_are : machine.program.harts ≡ harts
  pub without_is : machine.program.without ≡ without
  pub jumps : anywhere ≡ true → machine.program.targets.anywhere ≡ true
  pub distinct : AreDistinct machine
  pub begun : Begun
  pub begins : HasBegun machine begun
  pub graph_of : Graph State Way
  pub known : (s : State) → Contains graph_of.states s → Knows machine s
  pub explored : IsExplored (Steps machine) machine.program.harts begun.state budget graph_of found.extent
  pub count : found.states ≡ length graph_of.states

-- So it is where these are left out: jumps among them, if they are, in that jumps by registers may go anywhere.
abbrev pub IsSearchedFor : ProgramImage → ℕ → Without → ℕ → Found → Type 0
IsSearchedFor image harts without budget found = IsSearchedWith image harts without without.jumps budget found

-- And so it is of a machine of a program.
abbrev pub IsSearchedBy : Program → ℕ → Found → Type 0
IsSearchedBy p budget found = IsSearchedWith p.image p.harts p.without p.targets.anywhere budget found
