use Rattle.std.proofs.Common.{arith}
use Rattle.std.proofs.lemmas.Int.{ints}
use Rattle.litmus_words.proofs.Taking.{negative}
use Rattle.litmus_words.proofs.Only.{integer_parts, plain_integer, positive}
use Rattle.litmus_words.proofs.take.number.Goals as goal

pub returns-in_ok-number-in-Some-clause-taken : goal.returns-in_ok-number-in-Some-clause-taken
returns-in_ok-number-in-Some-clause-taken c =
    negative _ _ _ c.in_ok-number-in-Some.number _ (omega (arith, ints)) c.in-Some.ensures.spelled
    c.in_ok-number-in-Some.ensures.taken

pub returns-in_ok-number-in-None-clause-taken : goal.returns-in_ok-number-in-None-clause-taken
returns-in_ok-number-in-None-clause-taken c =
    positive _ _ c.in_ok-number-in-None.number _ (omega (arith, ints)) c.in_ok-number-in-None.ensures.taken

pub returns-in_err-number-in-None-clause-only : goal.returns-in_err-number-in-None-clause-only
returns-in_err-number-in-None-clause-only c = λ number rest taken.
    let plain = plain_integer c.args.words.now rest number c.in-None.ensures.only
    (integer_parts c.args.words.now rest number taken) in
    absurd (c.in_err-number-in-None.ensures.only plain.natural rest plain.taken)
