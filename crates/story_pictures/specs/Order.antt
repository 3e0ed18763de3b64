-- The rows of an order that is made from the start of a machine. (This project's own choice.)
use Rattle.std.specs.Prelude.{◌≡◌, ℕ, ◌+◌, ◌<◌, ◌≤◌, List, ◌++◌, Some, length, reverse, take, true, is_some}
use Rattle.smt_model.specs.{Setup.Setup, Plain.Plain, Plain.Run, Plain.advance, Plain.run, Plain.step}
use Rattle.sc_machine.specs.{Machine.Machine, Machine.Agrees, Refusals.refusal}
use Rattle.stories.specs.{Story.row_list, Story.row_of, Story.step_of, Story.story}
use Rattle.stories.specs.{declared.step.Step.Step, declared.row.Row.Row}
use Rattle.story_text.specs.Order.{IsRefusedStep, OfEachStart}
use Rattle.story_pictures.specs.Form.{most_rows}
use Rattle.story_pictures.specs.declared.{order.Undrawn.Undrawn, order.Unmade.Unmade}
use Rattle.story_pictures.specs.declared.order.Undrawn.TheVariants as undrawn
use Rattle.story_pictures.specs.declared.order.Unmade.TheVariants as unmade

-- The story of an order, newest first, with its first row first.
abbrev pub rows_told : Setup → List ℕ → List Row
rows_told setup order = reverse (story setup order)

-- The order, newest first, is a run from the start, and these are its rows, the first one first.
pub record HasRows (setup : Setup) (order : List ℕ) (rows : List Row) : Type 0 where
  pub ran : Run
  pub runs : run setup order ≡ Some ran
  pub rows_are : rows ≡ rows_told setup order

-- Some first steps of the order, whose first word is first, have more rows than are drawn.
pub record HasManyRows (setup : Setup) (order : List ℕ) : Type 0 where
  pub steps : ℕ
  pub inside : steps ≤ length order
  pub many : most_rows < length (story setup (reverse (take steps order)))

abbrev pub IsUndrawn : List ℕ → Machine → Undrawn → Type 0
IsUndrawn order old (undrawn.Step at) =
    (at.index < length order) × OfEachStart old (λ setup. IsRefusedStep setup old.room order at)
IsUndrawn order old undrawn.Many = OfEachStart old (λ setup. HasManyRows setup order)
IsUndrawn order old undrawn.Memory = Unit {0}

abbrev pub undrawn_at : ℕ → Unmade → Undrawn
undrawn_at index (unmade.Step why) = undrawn.Step (record { index = index; why = why })
undrawn_at index unmade.Many = undrawn.Many
undrawn_at index unmade.Memory = undrawn.Memory

-- ---- One step

-- It was made, and its row, if it has one, stands behind those told so far.
pub record HasDrawnStep (setup : Setup) (before : Run) (h : ℕ) (old new : List Row) (m : Machine) : Type 0 where
  pub made : step setup h (Some before) ≡ Some (advance setup h before)
  pub agrees : Agrees setup (advance setup h before).state m
  pub drawn : new ≡ old ++ row_list (row_of (length old + 1) (step_of setup before.state h))

-- A row of it is one too many, or finds no memory.
abbrev pub IsUnpushed : List Row → Step → Unmade → Type 0
IsUnpushed old step (unmade.Step why) = ⊥
IsUnpushed old step unmade.Many = (most_rows ≤ length old) × (is_some step.deed ≡ true)
IsUnpushed old step unmade.Memory = Unit {0}

-- The machine refuses it; or its row is one too many, or finds no memory.
abbrev pub IsUnmade : Setup → ℕ → Plain → List Row → ℕ → Unmade → Type 0
IsUnmade setup room s old h (unmade.Step why) = refusal setup room s h ≡ Some why
IsUnmade setup room s old h unmade.Many = (most_rows ≤ length old) × (is_some (step_of setup s h).deed ≡ true)
IsUnmade setup room s old h unmade.Memory = Unit {0}
