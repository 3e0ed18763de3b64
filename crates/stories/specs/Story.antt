-- The story of an order of harts. (This project's own choice.)
use Rattle.std.specs.Prelude.{ℕ, Bool, false, ◌||◌, List, [], ◌∷◌, ◌++◌, Option, Some, None, is_some}
use Rattle.std.specs.Prelude.{option_map, filter, length}
use Rattle.smt_model.specs.{Setup.Setup, Plain.Plain, Plain.Run, Plain.run, Plain.op_at_pc}
use Rattle.stories.specs.Deeds.{deed_of}
use Rattle.stories.specs.declared.{step.Step.Step, row.Row.Row, deed.Deed.Deed}

-- Hart h's step that is made in a state.
abbrev pub step_of : Setup → Plain → ℕ → Step
step_of setup s h = record { hart = h; pc = s.pcs h; op = op_at_pc setup s h; deed = deed_of setup s h }

-- The steps of an order, each in the state that the run before it leaves. Order and steps have the newest first.
abbrev pub step_behind : Setup → Option Run → ℕ → List Step
step_behind setup None h = []
step_behind setup (Some before) h = step_of setup before.state h ∷ []

abbrev pub steps : Setup → List ℕ → List Step
steps setup [] = []
steps setup (h ∷ order) = step_behind setup (run setup order) h ++ steps setup order

-- A step has a row where it shows something, or all are wanted.
abbrev pub has_row : Bool → Step → Bool
has_row all step = all || is_some step.deed

-- How many rows there are of these steps.
abbrev pub row_count : Bool → List Step → ℕ
row_count all steps = length (filter (has_row all) steps)

abbrev pub row_of : ℕ → Step → Option Row
row_of number step =
    option_map (λ (d : Deed). record { number = number; hart = step.hart; pc = step.pc; deed = d }) step.deed

abbrev pub row_list : Option Row → List Row
row_list None = []
row_list (Some row) = row ∷ []

-- The rows of these steps that show something, the newest first: the first step's is the number of its rows.
abbrev pub rows : Bool → List Step → List Row
rows all [] = []
rows all (step ∷ earlier) = row_list (row_of (row_count all (step ∷ earlier)) step) ++ rows all earlier

-- The story of an order, both the newest first.
abbrev pub story : Setup → List ℕ → List Row
story setup order = rows false (steps setup order)
