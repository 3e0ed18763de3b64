use Rattle.std.proofs.Common.{arith}
use Rattle.std.proofs.lemmas.Int.{ints}
use Rattle.litmus_words.proofs.Only.{integer_of, same_word}
use Rattle.litmus_words.proofs.take.word_number.Goals as goal

pub returns-in_err-number-clause-only : goal.returns-in_err-number-clause-only
returns-in_err-number-clause-only c = λ word rest taken.
    absurd (c.in_err-number.ensures.only taken.spells.number rest (integer_of c.args.words.now rest word taken))

pub returns-in-None-clause-only : goal.returns-in-None-clause-only
returns-in-None-clause-only c = λ word rest taken.
    let same = c.in_ok-number.ensures.only taken.spells.number rest (integer_of c.args.words.now rest word taken) in
    c.in-None.ensures.only word
    (same_word _ taken.spells.number word (omega (arith, ints, same.0)) taken.spells.fits)
