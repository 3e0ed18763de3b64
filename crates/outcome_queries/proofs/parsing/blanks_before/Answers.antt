use Rattle.std.proofs.lemmas.Str.Ascii.{trim_ascii_start_is}
use Rattle.outcome_queries.proofs.Opening.{blanks_are}
use Rattle.outcome_queries.proofs.parsing.blanks_before.Goals as goal

pub returns-clause-count : goal.returns-clause-count
returns-clause-count c =
    blanks_are c.args.text.now _
    (trim_ascii_start_is c.args.text.now c.trim_ascii_start.result.now c.trim_ascii_start.ensures.value)
