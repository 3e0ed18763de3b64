-- Tests, held against the lines of a summary. (This project's own choice.)
use Rattle.std.specs.Prelude.{ℕ, Bool, true, not, ◌&&◌, if◌then◌else◌, List, [], ◌∷◌, ◌++◌, codes, count_by, flat_map}
use Rattle.std.specs.Prelude.{Option, Some, None, option_map, slice_get, slice_set}
use Rattle.std.specs.{Option.option_map_or, List.position_or_len, Str.bytes_eq}
use Rattle.litmus_suites.specs.declared.summary_lines.ExpectedLine.{ExpectedLine}
use Rattle.litmus_suites.specs.declared.expectation.Met.{Met}
use Rattle.litmus_suites.specs.declared.expectation.Met.TheVariants.{Same, Changed, New}

-- A test takes the first line of its name that none has taken before. Its place is behind all lines where there is none.
abbrev pub meets : List ℕ → ExpectedLine → Bool
meets name line = not line.is_over && bytes_eq line.name.now name

abbrev pub place_of : List ℕ → List ExpectedLine → ℕ
place_of name lines = position_or_len (meets name) lines

-- What is said in it.
abbrev pub counterpart : List ℕ → List ExpectedLine → Option (List ℕ)
counterpart name lines = option_map (λ line. line.verdict.now) (slice_get lines (place_of name lines))

-- It is over then.
abbrev pub over : ExpectedLine → ExpectedLine
over line = record line { is_over = true }

abbrev pub over_at : List ExpectedLine → ℕ → List ExpectedLine
over_at lines place = option_map_or (λ line. slice_set lines place (over line)) (slice_get lines place) lines

abbrev pub taken : List ℕ → List ExpectedLine → List ExpectedLine
taken name lines = over_at lines (place_of name lines)

-- What differs: what was said of a test, and what is said now, each with a blank before it.
unfoldable pub difference_text : List ℕ → List ℕ → List ℕ → List ℕ
difference_text name was is = name ++ (codes ": was" ++ (was ++ (codes ", is" ++ (is ++ 10 ∷ []))))

abbrev pub not_there : List ℕ
not_there = codes " not there"

-- What a test is beside the line that it takes, and what is written of it: nothing where both say the same.
abbrev pub met_of : Option (List ℕ) → List ℕ → Met
met_of None is = New
met_of (Some was) is = if bytes_eq was is then Same else Changed

abbrev pub met_text : List ℕ → Option (List ℕ) → List ℕ → List ℕ
met_text name None is = difference_text name not_there is
met_text name (Some was) is = if bytes_eq was is then [] else difference_text name was is

-- What is written of the lines that no test has taken, and how many there are.
abbrev pub gone_line : ExpectedLine → List ℕ
gone_line line = if line.is_over then [] else difference_text line.name.now line.verdict.now not_there

abbrev pub gone_text : List ExpectedLine → List ℕ
gone_text lines = flat_map gone_line lines

abbrev pub gone_count : List ExpectedLine → ℕ
gone_count lines = count_by (λ line. not line.is_over) lines
