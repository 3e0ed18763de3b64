-- The lines of asks, with what is wanted beside the pc of each fetch. (This project's own choice.)
use Rattle.std.specs.Prelude.{◌≡◌, ◌==◌, ℕ, List, [], ◌∷◌, ◌++◌, All, codes, flat_map, Option, Some, None}
use Rattle.std.specs.Prelude.{if◌then◌else◌}
use Rattle.std.specs.{Result.result_ok, List.starts_with}
use Rattle.text_fields.specs.{Reading.hex_field, Splitting.field, Splitting.rest, Splitting.Lacks}
use Rattle.address_labels.specs.{Labels.Marks, Texts.labels_text}
use Rattle.address_labels.specs.declared.writing.Form.TheVariants.{Word}

-- What stands behind the first five fields of a line.
abbrev pub behind_five : List ℕ → List ℕ
behind_five line = rest 32 (rest 32 (rest 32 (rest 32 (rest 32 line))))

-- The pc of a line that begins as that of a fetch: `done F`, actor, hart and number stand before it.
abbrev pub fetched_pc : List ℕ → Option ℕ
fetched_pc line =
    if starts_with (λ a b. a == b) line (codes "done F ") then result_ok (hex_field 8 (field 32
    (behind_five line))) else None

abbrev pub or_else : Option ℕ → Option ℕ → Option ℕ
or_else None other = other
or_else (Some one) other = Some one

-- The pc of a line of a fetch, with the word of its ask before it or without.
abbrev pub pc_in : List ℕ → Option ℕ
pc_in line = or_else (fetched_pc line) (fetched_pc (rest 32 line))

abbrev pub labels_by : Marks → Option ℕ → List ℕ
labels_by marks None = []
labels_by marks (Some pc) = labels_text Word marks pc

-- A line with what is wanted beside its pc, where it has one, and its newline.
abbrev pub named_line : Marks → List ℕ → List ℕ
named_line marks line = line ++ (labels_by marks (pc_in line) ++ 10 ∷ [])

-- What stands behind the last newline of a text, as a line, where there is something.
abbrev pub last_line : Marks → List ℕ → List ℕ
last_line marks [] = []
last_line marks (byte ∷ bytes) = named_line marks (byte ∷ bytes)

-- The lines of a text so.
pub record IsNamedText (marks : Marks) (text named : List ℕ) : Type 0 where
  pub lines : List (List ℕ)
  pub last : List ℕ
  pub whole : text ≡ flat_map (λ line. line ++ 10 ∷ []) lines ++ last
  pub each : All (Lacks 10) lines
  pub last_lacks : Lacks 10 last
  pub is : named ≡ flat_map (named_line marks) lines ++ last_line marks last
