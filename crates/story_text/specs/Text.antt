-- The text of a story. (This project's own choice.)
use Rattle.std.specs.Prelude.{ℕ, ◌+◌, ◌||◌, Bool, if◌then◌else◌, List, [], ◌∷◌, ◌++◌, codes, length, flat_map}
use Rattle.std.specs.Prelude.{Option, Some, None, is_some}
use Rattle.std.specs.List.{before_first}
use Rattle.smt_model.specs.Basics.{below}
use Rattle.symbols.specs.Tables.{Table, table_of}
use Rattle.address_labels.specs.{Labels.Marks, Labels.marks_of, Texts.labels_text}
use Rattle.address_labels.specs.declared.writing.Form.TheVariants.{Word}
use Rattle.stories.specs.{Story.has_row, Story.row_count, Story.rows, Takers.taker, Notes.note_of}
use Rattle.stories.specs.declared.{deed.Deed.Deed, row.Row.Row, step.Step.Step, recent.Note.Note}
use Rattle.stories.specs.declared.deed.Deed.TheVariants as deed
use Rattle.stories.specs.declared.recent.Note.TheVariants as note
use Rattle.story_text.specs.{Fields.column, Fields.number_field, Fields.head_cell, Fields.unseen_text}
use Rattle.story_text.specs.{Deeds.body_of, declared.form.StoryForm.StoryForm}

-- How a story is told: how many harts there are, whether each step has a row, the names of the program, and what is
-- wanted behind each row.
pub record Plan : Type 0 where
  pub harts : ℕ
  pub all : Bool
  pub names : Table
  pub marks : Marks

abbrev pub plan_of : StoryForm → Plan
plan_of form = record {
  harts = form.harts;
  all = form.all;
  names = table_of form.names.now;
  marks = marks_of form.labels;
}

-- The harts over their columns.
abbrev pub harts_text : ℕ → List ℕ
harts_text harts = flat_map (head_cell harts) (below harts)

abbrev pub head_text : ℕ → List ℕ
head_text harts = codes "     " ++ (harts_text harts ++ 10 ∷ [])

-- What is wanted behind a row stands two spaces from it.
abbrev pub has_marks : Marks → Bool
has_marks marks = is_some marks.names || is_some marks.lines

abbrev pub behind_row : Marks → ℕ → List ℕ
behind_row marks pc = if has_marks marks then 32 ∷ (labels_text Word marks pc ++ 10 ∷ []) else 10 ∷ []

-- A row of this number, with what earlier rows make of it.
abbrev pub numbered_line : Plan → ℕ → Option Note → Step → List ℕ
numbered_line plan number noted step =
    number_field number ++ (column plan.harts step.hart ++ (body_of plan.names noted step step.deed
    ++ behind_row plan.marks step.pc))

-- ---- Behind the steps told so far, the newest first

-- Who took the reservation that a step of hart h has missed.
abbrev pub taker_for : Bool → List Step → ℕ → Option Deed → Option Row
taker_for all past h (Some (deed.Failed addr)) = taker h addr (rows all past)
taker_for all past h _ = None

-- What the last rows make of it; and what earlier rows make of it.
abbrev pub note_since : Bool → List Step → ℕ → Option Deed → Option Note
note_since all past h None = None
note_since all past h (Some d) = note_of h d (rows all past)

abbrev pub taken_or : Option Row → Option Note → Option Note
taken_or None other = other
taken_or (Some row) other = Some (note.Taken row)

abbrev pub note_for : Bool → List Step → ℕ → Option Deed → Option Note
note_for all past h shown = taken_or (taker_for all past h shown) (note_since all past h shown)

-- The row of a step.
abbrev pub line_text : Plan → List Step → Step → List ℕ
line_text plan past step =
    numbered_line plan (row_count plan.all past + 1) (note_for plan.all past step.hart step.deed) step

-- How many steps came behind the last row.
abbrev pub unseen : Bool → List Step → ℕ
unseen all past = length (before_first (has_row all) past)

-- What a step adds: where it has a row, how many came before it that have none, and its row.
abbrev pub piece : Plan → List Step → Step → List ℕ
piece plan past step =
    if has_row plan.all step then unseen_text (unseen plan.all past) ++ line_text plan past step else []

abbrev pub pieces : Plan → List Step → List ℕ
pieces plan [] = []
pieces plan (step ∷ past) = pieces plan past ++ piece plan past step

-- The story of these steps.
abbrev pub story_text : Plan → List Step → List ℕ
story_text plan steps = head_text plan.harts ++ (pieces plan steps ++ unseen_text (unseen plan.all steps))
