use Rattle.symbols.specs.Tables.{table_of}
use Rattle.outcome_queries.proofs.TermReading.{holds_found, holds_none, term_found, uncut_none}
use Rattle.outcome_queries.proofs.term.read_term.Goals as goal

pub returns-in_default-clause-refused : goal.returns-in_default-clause-refused
returns-in_default-clause-refused c =
    uncut_none (table_of c.args.names.now) c.args.text.now c.trimmed.result.now c.trimmed.ensures
    c.in_default.ensures.none c.in_default.ensures.no_below

pub returns-in-Some-read_end-clause-found : goal.returns-in-Some-read_end-clause-found
returns-in-Some-read_end-clause-found c =
    term_found (table_of c.args.names.now) c.args.text.now c.trimmed.result.now _ _ _ c.in-Some-read_end.end
    c.trimmed.ensures c.in-Some.ensures.whole (c.in-Some-read_end.ensures.found.1 (table_of c.args.names.now))

pub returns-in-None-clause-refused : goal.returns-in-None-clause-refused
returns-in-None-clause-refused c =
    holds_none (table_of c.args.names.now) c.args.text.now c.trimmed.result.now _ _ _ c.read_holds.result
    c.trimmed.ensures c.in-Some.ensures.whole c.in-Some.ensures.first
    (c.in_default-read_end.ensures.none (table_of c.args.names.now)) c.in-None.ensures.none c.read_holds.ensures.refused
