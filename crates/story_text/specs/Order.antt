-- The story of an order that is made from the start of a machine.
use Rattle.std.specs.Prelude.{◌≡◌, ℕ, ◌<◌, List, ◌∷◌, Option, Some, length, reverse, take, slice_index}
use Rattle.std.specs.Io.KnownBytes.{Appends}
use Rattle.smt_model.specs.{Setup.Setup, Plain.Plain, Plain.Run, Plain.advance, Plain.run, Plain.start, Plain.step}
use Rattle.sc_machine.specs.{Machine.Machine, Machine.Agrees, Refusals.refusal}
use Rattle.sc_machine.specs.declared.refused.StoppedAt.{StoppedAt}
use Rattle.stories.specs.{Story.step_of, Story.steps, declared.step.Step.Step}
use Rattle.story_text.specs.{Text.Plan, Text.piece, Text.story_text, Telling.HasTold, Telling.most_told}
use Rattle.story_text.specs.declared.{order.Untold.Untold, order.Unmade.Unmade, telling.Telling.Telling}
use Rattle.story_text.specs.declared.order.Untold.TheVariants as untold
use Rattle.story_text.specs.declared.order.Unmade.TheVariants as unmade

-- It is so of every setup at whose start the machine stood.
abbrev pub OfEachStart : Machine → (Setup → Type 0) → Type 0
OfEachStart old P = (setup : Setup) → Agrees setup (start setup) old → P setup

-- The order, newest first, is a run from the start, with which the machine agrees now, and its story was written.
pub record HasStory (plan : Plan) (setup : Setup) (order : List ℕ) (before after : Option (List ℕ)) (m : Machine)
    : Type 0 where
  pub ran : Run
  pub runs : run setup order ≡ Some ran
  pub agrees : Agrees setup ran.state m
  pub written : Appends before after (story_text plan (steps setup order))

abbrev pub IsTold : Plan → List ℕ → Option (List ℕ) → Option (List ℕ) → Machine → Machine → Type 0
IsTold plan order before after old new = OfEachStart old (λ setup. HasStory plan setup order before after new)

-- The run up to a step of the order, the first word first, is made, and the step is refused.
pub record IsRefusedStep (setup : Setup) (room : ℕ) (order : List ℕ) (at : StoppedAt) : Type 0 where
  pub before : Run
  pub runs : run setup (reverse (take at.index order)) ≡ Some before
  pub refused : refusal setup room before.state (slice_index order at.index) ≡ Some at.why

abbrev pub IsUntold : List ℕ → Machine → Untold → Type 0
IsUntold order old (untold.Step at) =
    (at.index < length order) × OfEachStart old (λ setup. IsRefusedStep setup old.room order at)
IsUntold order old untold.Output = Unit {0}

abbrev pub untold_at : ℕ → Unmade → Untold
untold_at index (unmade.Step why) = untold.Step (record { index = index; why = why })
untold_at index unmade.Output = untold.Output

-- ---- One step

-- It was told and made: whatever was told before, this step was told behind it.
pub record HasToldStep (plan : Plan) (setup : Setup) (before : Run) (h : ℕ) (was now : Telling)
    (old new : Option (List ℕ)) (m : Machine) : Type 0 where
  pub made : step setup h (Some before) ≡ Some (advance setup h before)
  pub agrees : Agrees setup (advance setup h before).state m
  pub told : (past : List Step) → length past < most_told → HasTold plan.all past was
      → HasTold plan.all (step_of setup before.state h ∷ past) now
  pub written : (past : List Step) → length past < most_told → HasTold plan.all past was
      → Appends old new (piece plan past (step_of setup before.state h))

-- The machine refuses it, whose harts are those of the story.
abbrev pub IsUnmade : Setup → ℕ → Plain → ℕ → ℕ → Unmade → Type 0
IsUnmade setup room s harts h (unmade.Step why) = harts ≡ setup.harts → refusal setup room s h ≡ Some why
IsUnmade setup room s harts h unmade.Output = Unit {0}
