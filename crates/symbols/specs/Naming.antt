-- The name of an address. (This project's own choice.)
use Rattle.std.specs.Prelude.{ℕ, ◌+◌, ◌==◌, nat_le, nat_lt, ◌&&◌, Bool, if◌then◌else◌}
use Rattle.std.specs.Prelude.{List, find, filter, Option, Some, None}
use Rattle.std.specs.Str.{bytes_eq}
use Rattle.symbols.specs.declared.symbol.Symbol.{Symbol}
use Rattle.symbols.specs.Symbols.{kind_of, is_global, name_of}

-- The address is one of those that the symbol names: of a size, one of so many bytes; of none, just its own.
abbrev pub covers : ℕ → Symbol → Bool
covers address symbol =
    nat_le symbol.address address && (if symbol.size == 0 then address == symbol.address
    else nat_lt address (symbol.address + symbol.size))

-- How good a name it is, the lowest best: functions and objects go before labels, and then what all parts of the program
-- know before what one of them does.
abbrev pub rank : Symbol → ℕ
rank symbol = (if kind_of symbol == 0 then 2 else 0) + (if is_global symbol then 0 else 1)

abbrev pub is_found : ℕ → ℕ → Symbol → Bool
is_found address n symbol = covers address symbol && (rank symbol == n)

abbrev pub or_else : Option Symbol → Option Symbol → Option Symbol
or_else None other = other
or_else (Some symbol) other = Some symbol

-- The symbol that names an address: of those that cover it the best, and of equals the first.
abbrev pub symbol_for : List Symbol → ℕ → Option Symbol
symbol_for symbols address =
    or_else (find (is_found address 0) symbols)
    (or_else (find (is_found address 1) symbols)
    (or_else (find (is_found address 2) symbols) (find (is_found address 3) symbols)))
