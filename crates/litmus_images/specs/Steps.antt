-- The words of a hart's steps.
use Rattle.std.specs.Prelude.{ℕ, List, [], ◌∷◌, length, take, sum_by, flat_map, slice_get}
use Rattle.std.specs.{Option.option_map_or}
use Rattle.rv_instr.specs.declared.instr.Instr.{Instr}
use Rattle.rv_instr.specs.declared.instr.Instr.TheVariants as instr
use Rattle.smt_model.specs.Basics.{below}
use Rattle.litmus_tests.specs.declared.step.LitmusStep.{LitmusStep}
use Rattle.litmus_tests.specs.declared.step.LitmusStep.TheVariants.{Straight, Constant, Branch, Fence}
use Rattle.litmus_tests.specs.WellFormed.{step_length}
use Rattle.litmus_images.specs.Words.{constant_words, distance}

-- How many words stand before the step with this index, the end of the steps among them.
unfoldable pub step_place : List LitmusStep → ℕ → ℕ
step_place steps index = sum_by step_length (take index steps)

-- The words of the step with this index.
abbrev pub step_words : List LitmusStep → ℕ → LitmusStep → List Instr
step_words steps index (Straight instruction) = instruction ∷ []
step_words steps index (Constant register value) = constant_words register value
step_words steps index (Branch op left right target) =
    instr.Branch op left right
    (distance (step_place steps index) (step_place steps target)) ∷ []
step_words steps index (Fence fence) = instr.Fence ∷ []

abbrev pub words_at : List LitmusStep → ℕ → List Instr
words_at steps index = option_map_or (λ step. step_words steps index step) (slice_get steps index) []

unfoldable pub steps_words : List LitmusStep → List Instr
steps_words steps = flat_map (words_at steps) (below (length steps))
