-- How many states a search has, and how many without each of its reductions, as the command `outcomes` tells it. (This
-- project's own choice.)
use Rattle.std.specs.Prelude.{◌≡◌, ℕ, true, false, Option, Some, None}
use Rattle.elf_image.specs.Image.{ProgramImage}
use Rattle.watched_outcomes.specs.{declared.watch.Watch.Watch}
use Rattle.outcomes.specs.{Found.Found, Parts.IsAskedFor, Parts.IsListing, Searched.IsSearchedFor}
use Rattle.reductions.specs.{Names.has, Names.IsWith}
use Rattle.reductions.specs.declared.{reduction.Reduction.Reduction, without.Without.Without}
use Rattle.reductions.specs.declared.reduction.Reduction.TheVariants.{Conditional, Jumps}
use Rattle.outcome_text.specs.{declared.how.StateCount.StateCount, declared.how.How.How, How.count_of}
use Rattle.sim_inputs.specs.{declared.line.OutcomesCommand.OutcomesCommand}

-- A search of its own has so many states, within the budget of the command's: one that leaves this reduction out beside
-- those that the command's leaves out, and no other, and that no outcome has ended.
pub record IsCount (image : ProgramImage) (harts : ℕ) (watch : Watch) (command : OutcomesCommand)
    (reduction : Reduction) (count : StateCount) : Type 0 where
  pub without : Without
  pub one_more : IsWith command.without reduction without
  pub found : Found
  pub searched : IsSearchedFor image harts without command.states found
  pub listing : IsListing image harts watch command.states found
  pub unended : IsAskedFor (λ ending. ⊥) found
  pub is : count ≡ count_of command.states found

-- A reduction has one just where the command's search uses it.
abbrev pub IsCounted : ProgramImage → ℕ → Watch → OutcomesCommand → Reduction → Option StateCount → Type 0
IsCounted image harts watch command reduction None = has command.without reduction ≡ true
IsCounted image harts watch command reduction (Some count) =
    (has command.without reduction ≡ false) × IsCount image harts watch command reduction count

-- The numbers beside what was found: its own, and one for each reduction.
pub record AreCounts (image : ProgramImage) (harts : ℕ) (watch : Watch) (command : OutcomesCommand) (found : Found)
    (how : How) : Type 0 where
  pub states : how.states ≡ count_of command.states found
  pub conditional : IsCounted image harts watch command Conditional how.conditional
  pub jumps : IsCounted image harts watch command Jumps how.jumps

-- They are told just where that is asked.
abbrev pub IsHowOf : ProgramImage → ℕ → Watch → OutcomesCommand → Found → Option How → Type 0
IsHowOf image harts watch command found None = command.how ≡ false
IsHowOf image harts watch command found (Some how) =
    (command.how ≡ true) × AreCounts image harts watch command found how
