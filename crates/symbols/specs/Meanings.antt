-- What a name stands for. (This project's own choice.)
use Rattle.std.specs.Prelude.{◌≡◌, ◌≢◌, ℕ, ◌&&◌, ◌||◌, not, Bool, true, false, List, [], filter, Contains}
use Rattle.std.specs.Prelude.{Option, Some, None}
use Rattle.std.specs.{Borrow.Bor, List.list_any, List.All, Str.bytes_eq}
use Rattle.symbols.specs.declared.symbol.Symbol.{Symbol}
use Rattle.symbols.specs.declared.meanings.{Name.Name, Meaning.Meaning}
use Rattle.symbols.specs.declared.meanings.Meaning.TheVariants.{One, Several, Nothing}
use Rattle.symbols.specs.{Symbols.is_global, Symbols.name_of, Tables.Table, Parts.file_of}

-- The symbol is of this file, where one is named.
abbrev pub has_file : Option (Bor (List ℕ)) → Option (List ℕ) → Bool
has_file None file = true
has_file (Some wanted) None = false
has_file (Some wanted) (Some file) = bytes_eq file wanted.now

-- The symbol has this name.
abbrev pub has_name : Table → Name → Symbol → Bool
has_name table name symbol =
    bytes_eq (name_of table.names symbol) name.name.now && has_file name.file (file_of table symbol)

-- So has one that all parts of the program know.
abbrev pub is_known : Table → Name → Bool
is_known table name = list_any (λ symbol. is_global symbol && has_name table name symbol) table.symbols

-- The symbols that a name may stand for: where all parts of the program know one of that name, these; else all of it.
abbrev pub is_namesake : Table → Name → Symbol → Bool
is_namesake table name symbol = has_name table name symbol && (is_global symbol || not (is_known table name))

abbrev pub namesakes : Table → Name → List Symbol
namesakes table name = filter (is_namesake table name) table.symbols

-- What it stands for: a symbol, where all of these lie at its address; or for several, where two lie apart; or for
-- nothing, where no symbol has the name.
abbrev pub IsMeaning : Table → Name → Meaning → Type 0
IsMeaning table name (One symbol) = Contains (namesakes table name) symbol
    × All (λ (other : Symbol). other.address ≡ symbol.address) (namesakes table name)
IsMeaning table name Several = (one : Symbol) × (other : Symbol) × Contains (namesakes table name) one
    × Contains (namesakes table name) other × (one.address ≢ other.address)
IsMeaning table name Nothing = All (λ symbol. has_name table name symbol ≡ false) table.symbols
