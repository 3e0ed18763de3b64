-- What a hart does: the cells of its column, one below the other. A cell is a label with a colon behind it, an
-- instruction, both, or nothing.
use Rattle.std.specs.Prelude.{◌≡◌, ℕ, ◌+◌, Bool, true, false, if◌then◌else◌, List, [], ◌∷◌, ◌++◌, length, Option, Some, None, option_map, option_to_list}
use Rattle.litmus_tests.specs.declared.step.LitmusStep.{LitmusStep}
use Rattle.litmus_tests.specs.declared.step.LitmusStep.TheVariants as step_of
use Rattle.litmus_words.specs.declared.word.Word.{Word}
use Rattle.litmus_words.specs.declared.word.Token.{Token}
use Rattle.litmus_words.specs.declared.word.Token.TheVariants.{Mark}
use Rattle.litmus_words.specs.declared.word.Mark.TheVariants as mark
use Rattle.litmus_words.specs.Bytes.{same_bytes}
use Rattle.litmus_reading.specs.declared.instruction.Written.{Written}
use Rattle.litmus_reading.specs.declared.instruction.Written.TheVariants.{Straight, Constant, Branch, Fence}
use Rattle.litmus_reading.specs.declared.thread.Label.{Label}
use Rattle.litmus_reading.specs.Instructions.{SpellsInstruction, is_label}
use Rattle.litmus_reading.specs.Rows.{column_of}

abbrev pub is_colon : Token → Bool
is_colon (Mark mark.Colon) = true
is_colon token = false

abbrev pub label_of : List Word → Option Word
label_of (label ∷ next ∷ instruction) = if is_colon next.token then Some label else None
label_of cell = None

abbrev pub instruction_of : List Word → List Word
instruction_of (label ∷ next ∷ instruction) =
    if is_colon next.token then instruction else label ∷ next ∷ instruction
instruction_of cell = cell

-- The words of an instruction, if there are any.
abbrev pub if_some : List Word → List (List Word)
if_some [] = []
if_some (word ∷ words) = (word ∷ words) ∷ []

-- The instructions of a column.
abbrev pub instructions_of : List (List Word) → List (List Word)
instructions_of [] = []
instructions_of (cell ∷ cells) = if_some (instruction_of cell) ++ instructions_of cells

-- The labels of a column, each with the number of instructions above its cell, of which so many stand before these.
abbrev pub label_at : ℕ → List Word → List Label
label_at place cell = option_to_list (option_map (λ word. record { word = word; place = place }) (label_of cell))

abbrev pub labels_from : ℕ → List (List Word) → List Label
labels_from place [] = []
labels_from place (cell ∷ cells) =
    label_at place cell ++ labels_from (place + length (if_some (instruction_of cell))) cells

-- Where a label leads: the label of the same bytes tells it.
abbrev pub target_of : List ℕ → List Label → Word → Option ℕ
target_of text [] word = None
target_of text (label ∷ labels) word =
    if same_bytes text label.word word then Some label.place else target_of text labels word

-- A word that can be the name of a label, and of none of these.
pub record IsNewLabel (text : List ℕ) (before : List Label) (word : Word) : Type 0 where
  pub named : is_label word.token ≡ true
  pub new : target_of text before word ≡ None

-- None of these labels stands before it already.
abbrev pub AreOnce : List ℕ → List Label → List Label → Type 0
AreOnce text before [] = Unit {0}
AreOnce text before (label ∷ labels) =
    IsNewLabel text before label.word × AreOnce text (before ++ label ∷ []) labels

-- Each instruction is spelled by its words.
abbrev pub AreSpelled : List ℕ → List (List Word) → List Written → Type 0
AreSpelled text [] [] = Unit {0}
AreSpelled text (words ∷ others) (written ∷ more) =
    SpellsInstruction text words written × AreSpelled text others more
AreSpelled text others more = ⊥

-- The instruction of a cell is behind those before, if it has one.
pub record StepAdded (text : List ℕ) (instruction : List Word) (before after : List Written) : Type 0 where
  pub written : List Written
  pub spelled : AreSpelled text (if_some instruction) written
  pub added : after ≡ before ++ written

-- The step that an instruction is: a branch leads to where its label does.
abbrev pub IsStepOf : List ℕ → List Label → Written → LitmusStep → Type 0
IsStepOf text labels (Straight instr) step = step ≡ step_of.Straight instr
IsStepOf text labels (Fence fence) step = step ≡ step_of.Fence fence
IsStepOf text labels (Constant register value) step = step ≡ step_of.Constant register value
IsStepOf text labels (Branch op left right label) step = (target : ℕ) × (target_of text labels label ≡ Some target)
    × (step ≡ step_of.Branch op left right target)

abbrev pub AreStepsOf : List ℕ → List Label → List Written → List LitmusStep → Type 0
AreStepsOf text labels [] [] = Unit {0}
AreStepsOf text labels (written ∷ more) (step ∷ steps) =
    IsStepOf text labels written step × AreStepsOf text labels more steps
AreStepsOf text labels more steps = ⊥

-- The steps of a hart, by the words of the rows.
pub record SpellsThread (text : List ℕ) (rows : List Word) (hart : ℕ) (steps : List LitmusStep) : Type 0 where
  pub written : List Written
  pub spelled : AreSpelled text (instructions_of (column_of hart rows)) written
  pub once : AreOnce text [] (labels_from 0 (column_of hart rows))
  pub steps_are : AreStepsOf text (labels_from 0 (column_of hart rows)) written steps
