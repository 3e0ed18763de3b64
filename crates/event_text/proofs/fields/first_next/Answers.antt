use Rattle.std.proofs.Common.{arith}
use Rattle.std.proofs.lemmas.Bool.Decides.{nat_tests}
use Rattle.event_text.proofs.FirstNext.{next_ended, next_pc, next_stopped, no_letter}
use Rattle.event_text.proofs.fields.first_next.Goals as goal

pub returns-then-is_empty-clause-refused : goal.returns-then-is_empty-clause-refused
returns-then-is_empty-clause-refused c =
    no_letter c.args.fields.now (λ some is. grind (arith, nat_tests, some)) (λ some is. grind (arith, nat_tests, some))
    (λ some is. grind (arith, nat_tests, some))

pub returns-clause-refused : goal.returns-clause-refused
returns-clause-refused c =
    no_letter c.args.fields.now (λ some. c.if-fields-eq112.false) (λ some. c.if-fields-eq101.false)
    (λ some. c.if-fields-eq115.false)

pub returns-then-fields-eq112-clause-read : goal.returns-then-fields-eq112-clause-read
returns-then-fields-eq112-clause-read c =
    rw (next_pc c.args.fields.now c.if-fields-eq112.true).0 c.first_pc.ensures.read

pub returns-then-fields-eq112-clause-refused : goal.returns-then-fields-eq112-clause-refused
returns-then-fields-eq112-clause-refused c =
    rw (next_pc c.args.fields.now c.if-fields-eq112.true).0 c.first_pc.ensures.refused

pub returns-then-fields-eq112-clause-behind : goal.returns-then-fields-eq112-clause-behind
returns-then-fields-eq112-clause-behind c =
    rw (← (next_pc c.args.fields.now c.if-fields-eq112.true).1) c.first_pc.ensures.behind

pub returns-then-fields-eq101-clause-read : goal.returns-then-fields-eq101-clause-read
returns-then-fields-eq101-clause-read c =
    rw (next_ended c.args.fields.now c.if-fields-eq101.true).0 c.first_ended.ensures.read

pub returns-then-fields-eq101-clause-refused : goal.returns-then-fields-eq101-clause-refused
returns-then-fields-eq101-clause-refused c =
    rw (next_ended c.args.fields.now c.if-fields-eq101.true).0 c.first_ended.ensures.refused

pub returns-then-fields-eq101-clause-behind : goal.returns-then-fields-eq101-clause-behind
returns-then-fields-eq101-clause-behind c =
    rw (← (next_ended c.args.fields.now c.if-fields-eq101.true).1) c.first_ended.ensures.behind

pub returns-then-fields-eq115-clause-read : goal.returns-then-fields-eq115-clause-read
returns-then-fields-eq115-clause-read c =
    rw (next_stopped c.args.fields.now c.if-fields-eq115.true).0 c.first_stopped.ensures.read

pub returns-then-fields-eq115-clause-refused : goal.returns-then-fields-eq115-clause-refused
returns-then-fields-eq115-clause-refused c =
    rw (next_stopped c.args.fields.now c.if-fields-eq115.true).0 c.first_stopped.ensures.refused

pub returns-then-fields-eq115-clause-behind : goal.returns-then-fields-eq115-clause-behind
returns-then-fields-eq115-clause-behind c =
    rw (← (next_stopped c.args.fields.now c.if-fields-eq115.true).1) c.first_stopped.ensures.behind
