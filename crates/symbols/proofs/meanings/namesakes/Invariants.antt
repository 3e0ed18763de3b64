use Rattle.std.proofs.Common.{◌≡◌, ◌&&◌, ◌||◌, not, take}
use Rattle.std.specs.Prelude.{filter}
use Rattle.symbols.specs.Meanings.{has_name}
use Rattle.symbols.specs.Symbols.{is_global}
use Rattle.symbols.specs.Tables.{table_of}
use Rattle.symbols.proofs.meanings.namesakes.Given as goal

abbrev pub invariant-loop-symbol : goal.invariant-loop-symbol
invariant-loop-symbol l =
    l.them.items ≡ filter (λ symbol. has_name (table_of l.symbols) l.name symbol
    && (is_global symbol || not l.global_alone)) (take l.symbol-index l.symbol-items)
