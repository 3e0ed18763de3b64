use Rattle.litmus_words.proofs.Naming.{hart_is, no_hart, no_letter}
use Rattle.litmus_words.proofs.names.hart_named.Goals as goal

pub returns-in-Ok-clause-found : goal.returns-in-Ok-clause-found
returns-in-Ok-clause-found c = hart_is _ _ _ _ c.in-Some.ensures.cases.0 c.if-letter-ne80.false c.in-Ok.ensures.field

pub returns-in-Err-clause-none : goal.returns-in-Err-clause-none
returns-in-Err-clause-none c = λ hart small is.
    no_hart _ _ _ _ c.in-Some.ensures.cases.0 c.in-Err.ensures.field hart small is

pub returns-then-letter-ne80-clause-none : goal.returns-then-letter-ne80-clause-none
returns-then-letter-ne80-clause-none c = λ hart small is.
    no_letter _ _ _ c.in-Some.ensures.cases.0 c.if-letter-ne80.true hart is
