-- What the entries of the braces declare: of each location its type, and of an array how many elements it has.
use Rattle.std.specs.Prelude.{ℕ, Bool, true, false, ◌&&◌, if◌then◌else◌, List, [], ◌∷◌, Option, Some, None, unwrap_or}
use Rattle.litmus_tests.specs.{declared.number_type.NumberType.NumberType, Locations.int}
use Rattle.litmus_words.specs.declared.word.Word.{Word}
use Rattle.litmus_words.specs.declared.word.Token.{Token}
use Rattle.litmus_words.specs.declared.word.Token.TheVariants.{Mark, Name, Number}
use Rattle.litmus_words.specs.declared.word.Token.TheVariants as token
use Rattle.litmus_words.specs.declared.word.Mark.TheVariants as mark
use Rattle.litmus_words.specs.Bytes.{same_bytes}
use Rattle.litmus_reading.specs.Rows.{ended_by, is_semicolon}
use Rattle.litmus_reading.specs.declared.declarations.Declaration.{Declaration}

abbrev pub is_name : Token → Bool
is_name Name = true
is_name one = false

abbrev pub is_type : Token → Bool
is_type (token.Type number_type) = true
is_type one = false

abbrev pub is_star : Token → Bool
is_star (Mark mark.Star) = true
is_star one = false

abbrev pub is_bracket : Token → Bool
is_bracket (Mark mark.LeftBracket) = true
is_bracket one = false

-- Whether words begin so, and what stands behind that, if they do.
abbrev pub begins : (Token → Bool) → List Word → Bool
begins is [] = false
begins is (word ∷ words) = is word.token

abbrev pub behind_one : (Token → Bool) → List Word → List Word
behind_one is [] = []
behind_one is (word ∷ words) = if is word.token then words else word ∷ words

-- The type that stands first; `int` where none does.
abbrev pub type_of_token : Token → NumberType
type_of_token (token.Type number_type) = number_type
type_of_token one = int

abbrev pub type_before : List Word → NumberType
type_before [] = int
type_before (word ∷ words) = type_of_token word.token

-- `[2]` behind the name of an array.
abbrev pub number_in : Token → Option ℕ
number_in (Number number) = Some number
number_in one = None

abbrev pub elements_in : List Word → Option ℕ
elements_in (bracket ∷ number ∷ words) = if is_bracket bracket.token then number_in number.token else None
elements_in words = None

-- An entry behind its type, if it has one; then behind `*` and `[`, where its name is.
abbrev pub untyped : List Word → List Word
untyped entry = behind_one is_type entry

abbrev pub opened : List Word → List Word
opened entry = behind_one is_bracket (behind_one is_star (untyped entry))

-- The name with which these words begin is this one.
abbrev pub begins_with_name : List ℕ → Word → List Word → Bool
begins_with_name text name [] = false
begins_with_name text name (word ∷ words) = is_name word.token && same_bytes text word name

-- A pointer is an `int`. What stands in brackets, as `[x]`, is no array.
abbrev pub plain : Declaration
plain = record { number_type = int; elements = None }

abbrev pub elements_behind : List Word → Option ℕ
elements_behind [] = None
elements_behind (name ∷ words) = elements_in words

abbrev pub declared : List Word → Declaration
declared entry = if begins is_star (untyped entry) then plain
    else record {
      number_type = type_before entry;
      elements = if begins is_bracket (untyped entry) then None else elements_behind (untyped entry);
    }

abbrev pub declared_by : List ℕ → List Word → Word → Option Declaration
declared_by text entry name = if begins_with_name text name (opened entry) then Some (declared entry) else None

-- What the first entry says that declares a name; a word where none does.
abbrev pub first_declared : List ℕ → List (List Word) → Word → Declaration
first_declared text [] name = plain
first_declared text (entry ∷ entries) name = unwrap_or (declared_by text entry name) (first_declared text entries name)

abbrev pub declaration_of : List ℕ → List Word → Word → Declaration
declaration_of text words name = first_declared text (ended_by is_semicolon words) name
