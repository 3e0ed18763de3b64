use Rattle.std.proofs.Common.{refl, arith}
use Rattle.std.proofs.lemmas.Bool.Decides.{nat_tests}
use Rattle.symbols.specs.Tables.{table_of}
use Rattle.outcome_queries.proofs.TermReading.{unnamed_part}
use Rattle.outcome_queries.proofs.list.take.Goals as goal

pub returns-then-is_full-clause-refused : goal.returns-then-is_full-clause-refused
returns-then-is_full-clause-refused c = (
  record { watched = c.in-Ok.watched; spelled = c.args.part },
  record { names_it = c.in-Ok.ensures.found; kept = refl },
  grind (arith, nat_tests),
)

pub returns-in-Err-clause-refused : goal.returns-in-Err-clause-refused
returns-in-Err-clause-refused c =
    unnamed_part (table_of c.args.names.now) c.args.part.now _ c.in-Err.expected c.in-Err.ensures.refused
