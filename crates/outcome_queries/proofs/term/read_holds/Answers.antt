use Rattle.std.proofs.Common.{sym, subst}
use Rattle.symbols.specs.Tables.{table_of}
use Rattle.outcome_queries.specs.Terms.{HoldsNothing}
use Rattle.outcome_queries.proofs.TermReading.{no_value, unnamed_holds}
use Rattle.outcome_queries.proofs.term.read_holds.Goals as goal

pub returns-in_default-clause-refused : goal.returns-in_default-clause-refused
returns-in_default-clause-refused c =
    no_value (table_of c.args.names.now) c.args.cut.left.now c.args.cut.right.now c.in_default.ensures.none

pub returns-in-Err-clause-refused : goal.returns-in-Err-clause-refused
returns-in-Err-clause-refused c =
    subst (HoldsNothing (table_of c.args.names.now) c.args.cut.left.now c.args.cut.right.now) (sym c.of_term.ensures)
    (unnamed_holds (table_of c.args.names.now) c.args.cut.left.now c.args.cut.right.now c.in-Some.value c.in-Err.expected
    c.in-Some.ensures.found c.in-Err.ensures.refused)
