-- The file of which a local symbol is. [ELF32, "Symbol Table": STT_FILE stands before the local symbols of its file]
use Rattle.std.specs.Prelude.{ℕ, ◌+◌, ◌-◌, ◌*◌, ◌/◌, nat_le, if◌then◌else◌, List, map, find, reverse, length}
use Rattle.std.specs.Prelude.{Option, None, option_map}
use Rattle.smt_model.specs.Basics.{below}
use Rattle.symbols.specs.declared.symbol.Symbol.{Symbol}
use Rattle.symbols.specs.Symbols.{is_file, is_global, name_of, symbol_at}
use Rattle.symbols.specs.Tables.{Table}

-- The last that names a file, of the first n entries of a table that begins at a place of the file.
abbrev pub last_file : List ℕ → ℕ → ℕ → Option Symbol
last_file file start n = find is_file (map (λ k. symbol_at file (start + 16 * k)) (reverse (below n)))

-- How many entries of the table stand before that of a symbol.
abbrev pub entries_before : Table → Symbol → ℕ
entries_before table symbol =
    if nat_le symbol.place (length table.file) then (symbol.place - table.start) / 16 else 0

-- The name of the file of which a symbol is; none of one that all parts of the program know.
abbrev pub file_of : Table → Symbol → Option (List ℕ)
file_of table symbol = if is_global symbol then None
    else option_map (name_of table.names) (last_file table.file table.start (entries_before table symbol))
