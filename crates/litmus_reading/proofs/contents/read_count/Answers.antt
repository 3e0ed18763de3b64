use Rattle.litmus_words.specs.declared.word.Token.TheVariants.{Number}
use Rattle.litmus_words.proofs.Only.{moved_one}
use Rattle.litmus_reading.proofs.Contained.{count_parts}
use Rattle.litmus_reading.proofs.Entries.{counted}
use Rattle.litmus_reading.proofs.contents.read_count.Goals as goal

pub returns-clause-taken : goal.returns-clause-taken
returns-clause-taken c =
    counted _ _ _ _ _ c.if-count-eq0.false c.in_ok-rest.ensures.spelled c.in_ok-count.ensures.taken c.in_ok-rest-2.ensures.spelled

pub returns-in_err-count-clause-only : goal.returns-in_err-count-clause-only
returns-in_err-count-clause-only c = λ rest taken plain.
    let parts = count_parts c.args.words.now rest taken in
    let brackets = parts.brackets in
    absurd (c.in_err-count.ensures.only parts.count brackets.last
    (moved_one c.in_ok-rest.rest.now brackets.inside brackets.last (Number parts.count)
    (c.in_ok-rest.ensures.only brackets.inside brackets.opens) brackets.one))
