-- Words in rows and cells: a `;` ends a row, and between the cells of a row stand bars.
use Rattle.std.specs.Prelude.{ℕ, Bool, true, false, if◌then◌else◌, List, [], ◌∷◌, map, slice_index_or}
use Rattle.litmus_words.specs.declared.word.Word.{Word}
use Rattle.litmus_words.specs.declared.word.Token.{Token}
use Rattle.litmus_words.specs.declared.word.Token.TheVariants.{Mark}
use Rattle.litmus_words.specs.declared.word.Mark.TheVariants as mark

abbrev pub is_semicolon : Token → Bool
is_semicolon (Mark mark.Semicolon) = true
is_semicolon token = false

abbrev pub is_bar : Token → Bool
is_bar (Mark mark.Bar) = true
is_bar token = false

-- What can't begin a row: what is asked begins so.
abbrev pub is_asking : Token → Bool
is_asking (Mark mark.Exists) = true
is_asking (Mark mark.ForAll) = true
is_asking (Mark mark.Not) = true
is_asking (Mark mark.Locations) = true
is_asking (Mark mark.Filter) = true
is_asking token = false

-- The parts, with one word more before the first.
abbrev pub onto_first : Word → List (List Word) → List (List Word)
onto_first word [] = (word ∷ []) ∷ []
onto_first word (part ∷ parts) = (word ∷ part) ∷ parts

-- The parts behind each of which such a word stands. The last may have none behind it.
abbrev pub ended_by : (Token → Bool) → List Word → List (List Word)
ended_by is_end [] = []
ended_by is_end (word ∷ words) =
    if is_end word.token then [] ∷ ended_by is_end words else onto_first word (ended_by is_end words)

-- The parts between which such words stand.
abbrev pub parted_by : (Token → Bool) → List Word → List (List Word)
parted_by is_between [] = [] ∷ []
parted_by is_between (word ∷ words) =
    if is_between word.token then [] ∷ parted_by is_between words else onto_first word (parted_by is_between words)

-- The cell of a row in the column of a hart, and all cells of that column.
abbrev pub cell_at : ℕ → List Word → List Word
cell_at hart row = slice_index_or (parted_by is_bar row) hart []

abbrev pub column_of : ℕ → List Word → List (List Word)
column_of hart rows = map (cell_at hart) (ended_by is_semicolon rows)
