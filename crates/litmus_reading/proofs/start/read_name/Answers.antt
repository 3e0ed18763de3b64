use Rattle.litmus_words.specs.declared.word.Token.TheVariants.{Location}
use Rattle.litmus_words.proofs.Only.{moved_one}
use Rattle.litmus_reading.proofs.Entries.{bracketed_name, plain_name}
use Rattle.litmus_reading.proofs.EntryRead.{bracketed_parts}
use Rattle.litmus_reading.proofs.start.read_name.Goals as goal

pub returns-in_ok-rest-in-Some-clause-taken : goal.returns-in_ok-rest-in-Some-clause-taken
returns-in_ok-rest-in-Some-clause-taken c =
    bracketed_name _ _ _ _ _ c.in-Some.ensures.spelled c.in_ok-name-in-Some.ensures.taken
    c.in_ok-rest-in-Some.ensures.spelled

pub returns-in_ok-name-in-None-clause-taken : goal.returns-in_ok-name-in-None-clause-taken
returns-in_ok-name-in-None-clause-taken c = plain_name _ _ _ c.in_ok-name-in-None.ensures.taken

pub returns-in_err-name-in-Some-clause-only : goal.returns-in_err-name-in-Some-clause-only
returns-in_err-name-in-Some-clause-only c = λ declared rest taken.
    let brackets = bracketed_parts c.args.words.now rest c.in-Some.inner.now declared c.in-Some.ensures.spelled taken in
    absurd (c.in_err-name-in-Some.ensures.only declared brackets.last
    (moved_one c.in-Some.inner.now brackets.inside brackets.last (Location declared)
    (c.in-Some.ensures.only brackets.inside brackets.opens) brackets.one))
