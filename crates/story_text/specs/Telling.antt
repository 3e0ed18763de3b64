-- How far a story is told.
use Rattle.std.specs.Prelude.{◌≡◌, ℕ, ◌-◌, ◌^◌, Bool, List}
use Rattle.stories.specs.{Story.row_count, Story.rows, Takers.HasHeard, Notes.HasKept, declared.step.Step.Step}
use Rattle.story_text.specs.{Text.unseen, declared.telling.Telling.Telling}

-- More steps than these aren't counted; no machine makes as many.
abbrev pub most_told : ℕ
most_told = 2 ^ 64 - 1

-- These steps were told, the newest first.
pub record HasTold (all : Bool) (past : List Step) (telling : Telling) : Type 0 where
  pub heard : HasHeard (rows all past) telling.teller
  pub kept : HasKept (rows all past) telling.recent
  pub rows_are : telling.rows ≡ row_count all past
  pub unseen_are : telling.unseen ≡ unseen all past
