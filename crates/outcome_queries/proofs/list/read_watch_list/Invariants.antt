use Rattle.std.proofs.Common.{length}
use Rattle.symbols.specs.Tables.{table_of}
use Rattle.outcome_queries.specs.Asking.{Asks}
use Rattle.outcome_queries.proofs.Separating.{IsRead}
use Rattle.outcome_queries.proofs.list.read_watch_list.Given as goal

abbrev pub invariant-loop-first : goal.invariant-loop-first
invariant-loop-first l = IsRead (Asks (table_of l.names)) 44 l.text l.rest l.list.items

abbrev pub decreases-loop-first : goal.decreases-loop-first
decreases-loop-first l = length l.rest
