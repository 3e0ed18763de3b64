use Rattle.std.proofs.Common.{inl, inr, ap, arith, ◌+◌}
use Rattle.symbols.specs.Tables.{table_of}
use Rattle.outcome_queries.proofs.Opening.{inner_short}
use Rattle.outcome_queries.proofs.Refusing.{before_refused, behind_refused, inner_refused, joined_count}
use Rattle.outcome_queries.proofs.parsing.+condition.Goals as goal

pub read_alone-read_inner-requires : goal.read_alone-read_inner-requires
read_alone-read_inner-requires t c =
    let short = inner_short c.args.text.now _ c.in-Denied.rest.now c.trimmed.ensures (inl c.in-Denied.ensures) in
    let blanks = c.blanks_before.ensures.count in
    let small = c.requires.small in
    (omega (arith, short), omega (arith, short, blanks, small))

pub read_alone-read_inner-requires-in-Grouped : goal.read_alone-read_inner-requires-in-Grouped
read_alone-read_inner-requires-in-Grouped t c =
    let short = inner_short c.args.text.now _ c.in-Grouped.rest.now c.trimmed.ensures (inr c.in-Grouped.ensures) in
    let blanks = c.blanks_before.ensures.count in
    let small = c.requires.small in
    (omega (arith, short), omega (arith, short, blanks, small))

pub read_alone-returns-in-Err-clause-refused : goal.read_alone-returns-in-Err-clause-refused
read_alone-returns-in-Err-clause-refused t c =
    inner_refused (table_of c.args.names.now) c.args.text.now _ c.in-Denied.rest.now c.args.place _ c.in-Err.why
    c.requires.alone c.trimmed.ensures (inl c.in-Denied.ensures)
    (ap (λ n. c.args.place.column + n) c.blanks_before.ensures.count) c.in-Err.ensures.refused

pub read_alone-returns-in-Err-read_inner-clause-refused : goal.read_alone-returns-in-Err-read_inner-clause-refused
read_alone-returns-in-Err-read_inner-clause-refused t c =
    inner_refused (table_of c.args.names.now) c.args.text.now _ c.in-Grouped.rest.now c.args.place _
    c.in-Err-read_inner.why c.requires.alone c.trimmed.ensures (inr c.in-Grouped.ensures)
    (ap (λ n. c.args.place.column + n) c.blanks_before.ensures.count) c.in-Err-read_inner.ensures.refused

pub read_part-returns-in-Err-clause-refused : goal.read_part-returns-in-Err-clause-refused
read_part-returns-in-Err-clause-refused t c =
    before_refused (table_of c.args.names.now) c.args.text.now c.args.place c.in-Some.joint c.in-Some.cut
    c.in-Err.refused c.in-Some.ensures.found c.in-Err.ensures.refused

pub read_part-returns-in-Err-read_part-clause-refused : goal.read_part-returns-in-Err-read_part-clause-refused
read_part-returns-in-Err-read_part-clause-refused t c =
    behind_refused (table_of c.args.names.now) c.args.text.now c.args.place c.in-Some.joint c.in-Some.cut
    c.in-Ok.first.count c.in-Ok.first.condition c.in-Err-read_part.refused c.in-Some.ensures.found
    c.in-Ok.ensures.read c.in-Ok.ensures.count c.in-Err-read_part.ensures.refused

pub read_part-returns-clause-count : goal.read_part-returns-clause-count
read_part-returns-clause-count t c =
    joined_count c.in-Some.joint c.in-Ok.first.condition c.in-Ok-read_part.others.condition c.args.place.before
    c.in-Ok.first.count c.in-Ok-read_part.others.count c.joined.result c.in-Ok.ensures.count
    c.in-Ok-read_part.ensures.count c.joined.ensures.made c.joined.ensures.count
