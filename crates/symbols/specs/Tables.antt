-- The names of a program, as a file's table of symbols has them. (This project's own choice.)
use Rattle.std.specs.Prelude.{◌≡◌, ◌⊎◌, ℕ, List, []}
use Rattle.symbols.specs.declared.symbol.Symbol.{Symbol}
use Rattle.symbols.specs.declared.reading.Symbols.{Symbols}
use Rattle.symbols.specs.Sections.{HasSections, IsSymbolSection, IsWhole, section_bytes, section_link}
use Rattle.symbols.specs.Sections.{section_offset}
use Rattle.symbols.specs.Symbols.{symbols_in}

-- The bytes of all names, and the symbols that are names of the program, in the table's order; the file, and where in it
-- the table begins.
pub record Table : Type 0 where
  pub names : List ℕ
  pub symbols : List Symbol
  pub file : List ℕ
  pub start : ℕ

abbrev pub table_of : Symbols → Table
table_of symbols = record {
  names = symbols.names.now;
  symbols = symbols.symbols.items;
  file = symbols.file.now;
  start = symbols.start;
}

-- No names.
abbrev pub no_names : Table
no_names = record { names = []; symbols = []; file = []; start = 0 }

-- It is what stands in a file's first table of symbols, which is whole.
abbrev pub IsTableOf : List ℕ → Table → Type 0
IsTableOf file table = (n : ℕ) × HasSections file × IsSymbolSection file n × IsWhole file n
    × (table.names ≡ section_bytes file (section_link file n)) × (table.symbols ≡ symbols_in file n)
    × (table.file ≡ file) × (table.start ≡ section_offset file n)

-- The file has no table of symbols, or one that isn't whole.
abbrev pub HasNoTable : List ℕ → Type 0
HasNoTable file = (n : ℕ) → HasSections file → IsSymbolSection file n → IsWhole file n → ⊥

-- The names of the program in a file: those of its table where it is whole, else none.
abbrev pub AreNamesOf : List ℕ → Table → Type 0
AreNamesOf file table = IsTableOf file table ⊎ (HasNoTable file × (table ≡ no_names))
