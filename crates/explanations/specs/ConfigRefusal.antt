-- The text of a configuration that is refused. (This project's own choice.)
use Rattle.std.specs.Prelude.{◌≡◌, ℕ, ◌+◌, ◌*◌, ◌<◌, ◌≤◌, ◌==◌, if◌then◌else◌, List, [], ◌∷◌, ◌++◌, codes, length}
use Rattle.std.specs.Prelude.{get_or, chars, string_bytes, Option, Some, None}
use Rattle.std.specs.Fmt.{decimal}
use Rattle.strsim.specs.Edits.{osa_table}
use Rattle.text_fields.specs.Each.{each_from}
use Rattle.shown_text.specs.Shown.{shown}
use Rattle.sim_inputs.specs.declared.explained.fault.NumberKey.{NumberKey}
use Rattle.sim_inputs.specs.declared.explained.fault.NumberKey.TheVariants as key
use Rattle.sim_inputs.specs.declared.explained.fault.ActorsFault.{ActorsFault}
use Rattle.sim_inputs.specs.declared.explained.fault.ActorsFault.TheVariants as actors
use Rattle.sim_inputs.specs.declared.explained.fault.ConfigFault.{ConfigFault}
use Rattle.sim_inputs.specs.declared.explained.fault.ConfigFault.TheVariants as faults
use Rattle.sim_inputs.specs.Configuration.{known_keys}
use Rattle.sim_inputs.specs.Explained.{name_of, least_of, greatest_of, IsFaultOf}
use Rattle.explanations.specs.Places.{found_at, key_place, quoted_place}

-- The names of the roles that an actor may have.
abbrev pub role_names : List (List ℕ)
role_names = codes "fetch" ∷ codes "front" ∷ codes "retire" ∷ codes "alu" ∷ codes "mul" ∷ codes "mem" ∷ []

-- ---- Names

-- A name of the text, in the marks of a name.
abbrev pub marked : List ℕ → List ℕ
marked name = 96 ∷ (shown name ++ 96 ∷ [])

-- Names with commas between.
abbrev pub listed : ℕ → List ℕ → List ℕ
listed place name = (if place == 0 then [] else codes ", ") ++ (96 ∷ (name ++ 96 ∷ []))

abbrev pub names_text : List (List ℕ) → List ℕ
names_text names = each_from listed 0 names ++ 10 ∷ []

-- How many letters of a name are other than in a text, missing, exchanged or too many.
abbrev pub distance : List ℕ → List ℕ → ℕ
distance other name = (osa_table (chars other) (chars name)).last_row (length (chars name))

abbrev pub distance_to : List ℕ → List (List ℕ) → ℕ → ℕ
distance_to other names index = distance other (get_or names index [])

-- These are at most a third of its letters, rounded up.
abbrev pub IsNear : List ℕ → List (List ℕ) → ℕ → Type 0
IsNear other names index = 3 * distance_to other names index ≤ length (get_or names index []) + 2

-- The name at a place is near, none is nearer, and none before it is as near.
pub record IsMeant (other : List ℕ) (names : List (List ℕ)) (index : ℕ) : Type 0 where
  pub inside : index < length names
  pub near : IsNear other names index
  pub first : (k : ℕ) → k < index → IsNear other names k → distance_to other names index < distance_to other names k
  pub least : (k : ℕ) → k < length names → IsNear other names k
      → distance_to other names index ≤ distance_to other names k

-- Which name was meant; or none is near.
abbrev pub IsHint : List ℕ → List (List ℕ) → Option ℕ → Type 0
IsHint other names (Some index) = IsMeant other names index
IsHint other names None = (k : ℕ) → k < length names → IsNear other names k → ⊥

unfoldable pub meant_line : List ℕ → List ℕ
meant_line name = codes ": did you mean `" ++ (name ++ codes "`?\n")

abbrev pub meant_text : List ℕ → List (List ℕ) → Option ℕ → List ℕ
meant_text other names (Some index) = marked other ++ meant_line (get_or names index [])
meant_text other names None = []

-- ---- What was expected, and what usually mends it

unfoldable pub document_wanted : List ℕ
document_wanted = codes "expected: a TOML document in UTF-8, with a line such as `harts = 1` for a key\n"
    ++ codes "usually: a text without its quotation marks, a list without its last bracket, or a key twice\n"

unfoldable pub keys_wanted : List ℕ
keys_wanted = codes "expected: no other keys than "

unfoldable pub multiple_wanted : ℕ → ℕ → List ℕ
multiple_wanted least greatest = codes "expected: a multiple of " ++ (decimal least ++ (codes " from " ++ (decimal least
    ++ (codes " to " ++ (decimal greatest ++ 10 ∷ [])))))

unfoldable pub range_wanted : ℕ → ℕ → List ℕ
range_wanted least greatest = codes "expected: a whole number from " ++ (decimal least
    ++ (codes " to " ++ (decimal greatest ++ 10 ∷ [])))

abbrev pub number_wanted : NumberKey → List ℕ
number_wanted key.Harts = range_wanted (least_of key.Harts) (greatest_of key.Harts)
number_wanted key.Extra = range_wanted (least_of key.Extra) (greatest_of key.Extra)
number_wanted key.Queue = range_wanted (least_of key.Queue) (greatest_of key.Queue)
number_wanted key.Ram = multiple_wanted (least_of key.Ram) (greatest_of key.Ram)
number_wanted key.Limit = range_wanted (least_of key.Limit) (greatest_of key.Limit)
number_wanted key.Turns = range_wanted (least_of key.Turns) (greatest_of key.Turns)

unfoldable pub number_mended : List ℕ
number_mended = codes "usually: it is beyond these bounds, stands in quotation marks or has a fraction\n"

unfoldable pub actors_wanted : List ℕ
actors_wanted = codes "expected: a list of 1 to 32 of "

unfoldable pub actors_mended : List ℕ
actors_mended = codes "usually: each name in quotation marks, as in `actors = [\"fetch\", \"front\"]`\n"

-- ---- The faults

-- A key, with its place.
unfoldable pub key_line : List ℕ → List ℕ → List ℕ
key_line text name = found_at text (key_place text name) ++ (codes "key " ++ (marked name ++ 10 ∷ []))

unfoldable pub no_text_line : List ℕ
no_text_line = codes "one of the list is no text\n"

unfoldable pub count_text : ℕ → List ℕ
count_text count = codes "the list has " ++ (decimal count ++ 10 ∷ [])

unfoldable pub role_line : List ℕ → List ℕ → List ℕ
role_line text name = found_at text (quoted_place text name) ++ (codes "role " ++ (marked name ++ 10 ∷ []))

abbrev pub actors_text : List ℕ → ActorsFault → Option ℕ → List ℕ
actors_text text (actors.NoRole name) meant =
    role_line text (string_bytes name) ++ meant_text (string_bytes name) role_names meant
actors_text text actors.NoText meant = key_line text (codes "actors") ++ no_text_line
actors_text text actors.NoList meant = key_line text (codes "actors") ++ codes "no list\n"
actors_text text (actors.Count count) meant = key_line text (codes "actors") ++ count_text count

-- All that is said of a fault; the name that was meant is one of those that are expected.
abbrev pub config_fault_text : List ℕ → ConfigFault → Option ℕ → List ℕ
config_fault_text text (faults.NoDocument place message) meant =
    found_at text (Some place) ++ (shown (string_bytes message) ++ 10 ∷ document_wanted)
config_fault_text text (faults.UnknownKey name) meant = key_line text (string_bytes name)
    ++ (meant_text (string_bytes name) known_keys meant ++ (keys_wanted ++ names_text known_keys))
config_fault_text text (faults.Number number) meant =
    key_line text (name_of number) ++ (number_wanted number ++ number_mended)
config_fault_text text (faults.Actors why) meant =
    actors_text text why meant ++ (actors_wanted ++ (names_text role_names ++ actors_mended))
config_fault_text text faults.Memory meant = []

abbrev pub IsActorsHint : ActorsFault → Option ℕ → Type 0
IsActorsHint (actors.NoRole name) meant = IsHint (string_bytes name) role_names meant
IsActorsHint why meant = Unit {0}

abbrev pub IsFaultHint : ConfigFault → Option ℕ → Type 0
IsFaultHint (faults.UnknownKey name) meant = IsHint (string_bytes name) known_keys meant
IsFaultHint (faults.Actors why) meant = IsActorsHint why meant
IsFaultHint fault meant = Unit {0}

-- Something is said of the fault: it is no want of memory.
abbrev pub IsTold : ConfigFault → Type 0
IsTold faults.Memory = ⊥
IsTold fault = Unit {0}

-- All that is said of a configuration that is refused, and has this fault.
pub record IsFaultText (text : List ℕ) (fault : ConfigFault) (said : List ℕ) : Type 0 where
  pub told : IsTold fault
  pub meant : Option ℕ
  pub is_hint : IsFaultHint fault meant
  pub whole : said ≡ codes "config refused\n" ++ config_fault_text text fault meant

pub record IsConfigRefusedText (text said : List ℕ) : Type 0 where
  pub fault : ConfigFault
  pub has : IsFaultOf text fault
  pub is_text : IsFaultText text fault said
