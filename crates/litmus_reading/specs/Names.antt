-- The names of locations are those that stand in the braces, each where it stands first, and wherever such a name stands
-- is the location. Each is what its first entry declares, and stands behind those before it, at a word.
use Rattle.std.specs.Prelude.{◌≢◌, ℕ, ◌+◌, ◌*◌, ◌/◌, Bool, is_none, is_some, ◌&&◌, if◌then◌else◌, List, [], ◌∷◌, ◌++◌, Option, Some, None, unwrap_or, All}
use Rattle.watched_outcomes.specs.Watching.{bytes_of}
use Rattle.litmus_words.specs.declared.word.{Word.Word, Declared.Declared}
use Rattle.litmus_words.specs.declared.word.Token.TheVariants.{Location}
use Rattle.litmus_words.specs.Bytes.{bytes_in, same_bytes}
use Rattle.litmus_words.specs.Parts.{element_size}
use Rattle.litmus_reading.specs.declared.declarations.Declaration.{Declaration}
use Rattle.litmus_reading.specs.declared.locations.{Named.Named, Beginning.Beginning}
use Rattle.litmus_reading.specs.Declarations.{declaration_of, is_name}

-- What begins there and is declared so.
abbrev pub declared_at : Beginning → Declaration → Declared
declared_at next declaration = record {
  first = next.first;
  byte = next.byte;
  size = unwrap_or declaration.elements 1 * bytes_of declaration.number_type.width;
  number_type = declaration.number_type;
  is_array = is_some declaration.elements;
}

abbrev pub elements_of : Declared → ℕ
elements_of declared = declared.size / element_size declared

-- Where the first begins, and where the next one does: at a word.
abbrev pub start_of_memory : Beginning
start_of_memory = record { first = 0; byte = 0 }

abbrev pub behind : Declared → Beginning
behind declared = record {
  first = declared.first + elements_of declared;
  byte = (declared.byte + declared.size + 3) / 4 * 4;
}

-- A name that a location may have: one without a `.`.
abbrev pub IsNewLocation : List ℕ → Named → Type 0
IsNewLocation text name = All (λ byte. byte ≢ 46) (bytes_in text name.word)

-- What a word is the name of: what the first name is with the same bytes.
abbrev pub declared_of : List ℕ → List Named → Word → Option Declared
declared_of text [] word = None
declared_of text (name ∷ names) word =
    if same_bytes text name.word word then Some name.declared else declared_of text names word

abbrev pub is_new : List ℕ → List Named → Word → Bool
is_new text names word = is_name word.token && is_none (declared_of text names word)

-- A name that begins there, as these words declare it.
abbrev pub name_at : List ℕ → List Word → Beginning → Word → Named
name_at text inside next word =
    record { word = word; declared = declared_at next (declaration_of text inside word) }

-- The names in words that aren't among these, the first of them beginning there.
abbrev pub new_names : List ℕ → List Word → List Named → Beginning → List Word → List Named
new_names text inside names next [] = []
new_names text inside names next (word ∷ words) =
    if is_new text names word
    then name_at text inside next word ∷ new_names text inside (names ++ name_at text inside next word ∷ [])
    (behind (declared_at next (declaration_of text inside word))) words
    else new_names text inside names next words

abbrev pub names_in : List ℕ → List Word → List Named
names_in text inside = new_names text inside [] start_of_memory inside

-- A word where these are the names of locations.
abbrev pub as_location : Word → Option Declared → Word
as_location word None = word
as_location word (Some declared) = record word { token = Location declared }

abbrev pub located_word : List ℕ → List Named → Word → Word
located_word text names word = if is_name word.token then as_location word (declared_of text names word) else word
