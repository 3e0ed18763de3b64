-- What earlier rows make of a row, as the story's text says it; and which of the rows of which something is said is the
-- one that strikes the eye. (This project's own choice.)
use Rattle.std.specs.Prelude.{◌≡◌, ℕ, ◌<◌, ◌==◌, Bool, true, false, nat_lt, if◌then◌else◌, List, [], ◌∷◌, reverse, take, length}
use Rattle.std.specs.Prelude.{Option, Some, None, codes, ◌++◌, is_some}
use Rattle.std.specs.Fmt.{decimal}
use Rattle.numbers.specs.Sizes.{most_harts}
use Rattle.stories.specs.{Notes.note_of, Notes.HasKept, Story.rows, Takers.taker, Takers.HasHeard}
use Rattle.stories.specs.declared.{deed.Deed.Deed, row.Row.Row, step.Step.Step, recent.Note.Note}
use Rattle.stories.specs.declared.deed.Deed.TheVariants as deed
use Rattle.stories.specs.declared.recent.Note.TheVariants as note
use Rattle.story_text.specs.{Deeds.reason_text, Text.note_for, Text.taken_or}
use Rattle.story_pictures.specs.declared.notes.Noting.{Noting}

-- Of the rows before it, the newest first: who took the reservation that it has missed, or what else they make of it.
abbrev pub taker_in : List Row → ℕ → Deed → Option Row
taker_in past h (deed.Failed addr) = if nat_lt h most_harts then taker h addr past else None
taker_in past h _ = None

abbrev pub note_in : List Row → Row → Option Note
note_in past row = taken_or (taker_in past row.hart row.deed) (note_of row.hart row.deed past)

-- The same of the row at index i of a story, whose first row comes first.
abbrev pub note_at : List Row → ℕ → Row → Option Note
note_at rows i row = note_in (reverse (take i rows)) row

-- It is what the story's text says.
abbrev pub NotesAreTold : Type 0
NotesAreTold = (past : List Step) (row : Row) → row.hart < most_harts
    → note_in (rows false past) row ≡ note_for false past row.hart (Some row.deed)

-- ---- The row that strikes the eye

-- A lost update or an ABA: another hart has written meanwhile, and this one doesn't know it.
abbrev pub is_fault : Option Note → Bool
is_fault None = false
is_fault (Some (note.Taken row)) = false
is_fault (Some (note.Overwrites read write)) = true
is_fault (Some (note.Again read write)) = true

-- The index of the last of these, among rows of which the newest comes first.
abbrev pub last_fault : List Row → Option ℕ
last_fault [] = None
last_fault (row ∷ past) = if is_fault (note_in past row) then Some (length past) else last_fault past

abbrev pub is_place : Option ℕ → ℕ → Bool
is_place None i = false
is_place (Some place) i = place == i

abbrev pub is_last_fault : List Row → ℕ → Bool
is_last_fault rows i = is_place (last_fault (reverse rows)) i

-- ---- Its words, beside the box

abbrev pub lost_words : Row → Row → List ℕ
lost_words read write =
    codes "lost update: row " ++ (decimal write.number ++ (codes " wrote since row " ++ decimal read.number))

abbrev pub again_words : Row → Row → List ℕ
again_words read write = codes "ABA: as in row " ++ (decimal read.number ++ (codes ", though row "
    ++ (decimal write.number ++ codes " wrote since")))

abbrev pub made_words : Option Note → List ℕ
made_words None = []
made_words (Some (note.Taken row)) = []
made_words (Some (note.Overwrites read write)) = lost_words read write
made_words (Some (note.Again read write)) = again_words read write

abbrev pub note_words : Option Note → Deed → List ℕ
note_words noted (deed.Failed addr) = codes "fails: " ++ reason_text noted
note_words noted _ = made_words noted

-- An SC that fails has some in any case.
abbrev pub has_words : Option Note → Deed → Bool
has_words noted (deed.Failed addr) = true
has_words noted _ = is_fault noted

-- ---- What is kept of the rows told so far, the newest first

pub record HasNoted (past : List Row) (noting : Noting) : Type 0 where
  pub heard : HasHeard past noting.teller
  pub kept : HasKept past noting.recent
