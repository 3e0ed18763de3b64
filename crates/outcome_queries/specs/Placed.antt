-- How a place in memory is written by a name. (This project's own choice, after a debugger's expressions.)
use Rattle.std.specs.Prelude.{◌≡◌, ◌⊎◌, ℕ, ◌==◌, nat_le, ◌&&◌, ◌||◌, not, Bool, true, false, List, [], ◌∷◌, ◌++◌}
use Rattle.std.specs.Prelude.{Option, Some, None, is_ok}
use Rattle.std.specs.{List.list_all, Borrow.Bor}
use Rattle.text_fields.specs.{Splitting.Lacks, Values.SpellsValue, Reading.decimal_field, Reading.hex_field}
use Rattle.symbols.specs.declared.meanings.Name.{Name}
use Rattle.outcome_queries.specs.Widths.{width_text}
use Rattle.outcome_queries.specs.declared.placed.{Placed.Placed, Behind.Behind}
use Rattle.outcome_queries.specs.declared.placed.Behind.TheVariants.{Element, Bytes}

-- A letter, `_`, `.` or `$`; a digit or `-` may stand behind the first.
abbrev pub can_begin : ℕ → Bool
can_begin byte = (nat_le 65 byte && nat_le byte 90) || (nat_le 97 byte && nat_le byte 122)
    || (byte == 95) || (byte == 46) || (byte == 36)

abbrev pub can_follow : ℕ → Bool
can_follow byte = can_begin byte || (nat_le 48 byte && nat_le byte 57) || (byte == 45)

-- It says something else: `h` and the number of a hart, or eight hexadecimal digits.
abbrev pub is_hart_name : List ℕ → Bool
is_hart_name [] = false
is_hart_name (first ∷ rest) = (first == 104) && is_ok (decimal_field 255 rest)

abbrev pub is_address : List ℕ → Bool
is_address text = is_ok (hex_field 8 text)

-- The name needs no quotation marks.
unfoldable pub is_plain_name : List ℕ → Bool
is_plain_name [] = false
is_plain_name (first ∷ rest) = can_begin first && (list_all can_follow rest
    && (not (is_hart_name (first ∷ rest)) && not (is_address (first ∷ rest))))

-- A name in quotation marks: one byte at the least, and none of these marks.
pub record IsMarked (text name : List ℕ) : Type 0 where
  pub some : name ≡ [] → ⊥
  pub plain : Lacks 39 name
  pub spelled : text ≡ 39 ∷ name ++ 39 ∷ []

-- A name: without quotation marks where it needs none, or in these.
abbrev pub SpellsPart : List ℕ → List ℕ → Type 0
SpellsPart text name = ((is_plain_name name ≡ true) × (text ≡ name)) ⊎ IsMarked text name

-- The same, with its file and `:` before it where one is said.
abbrev pub SpellsOf : List ℕ → Option (Bor (List ℕ)) → List ℕ → Type 0
SpellsOf text None name = SpellsPart text name
SpellsOf text (Some file) name = (first : List ℕ) × (rest : List ℕ) × SpellsPart first file.now × SpellsPart rest name
    × (text ≡ first ++ 58 ∷ rest)

abbrev pub SpellsName : List ℕ → Name → Type 0
SpellsName text name = SpellsOf text name.file name.name.now

-- How far behind its start: an element, or so many bytes, of which none need not be written.
abbrev pub SpellsBehind : List ℕ → Behind → Type 0
SpellsBehind text (Element n) = (index : List ℕ) × SpellsValue index n × (text ≡ 91 ∷ index ++ 93 ∷ [])
SpellsBehind text (Bytes n) = ((n ≡ 0) × (text ≡ [])) ⊎ ((bytes : List ℕ) × SpellsValue bytes n × (text ≡ 43 ∷ bytes))

-- A place as it stands before its width: the name, and how far behind its start.
pub record SpellsPlace (text : List ℕ) (name : Name) (far : Behind) : Type 0 where
  pub named : List ℕ
  pub behind : List ℕ
  pub names : SpellsName named name
  pub goes : SpellsBehind behind far
  pub spelled : text ≡ named ++ behind

-- All of it.
pub record SpellsPlaced (text : List ℕ) (placed : Placed) : Type 0 where
  pub place : List ℕ
  pub written : SpellsPlace place placed.name placed.behind
  pub spelled : text ≡ place ++ width_text placed.width
