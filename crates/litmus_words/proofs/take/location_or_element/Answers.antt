use Rattle.litmus_words.specs.declared.word.Token.TheVariants.{Mark, Number}
use Rattle.litmus_words.specs.declared.word.Mark.TheVariants as mark
use Rattle.litmus_words.proofs.Only.{in_brackets, moved_one}
use Rattle.std.proofs.Common.{refl}
use Rattle.litmus_words.proofs.Taking.{alone_taken, element_taken}
use Rattle.litmus_words.proofs.take.location_or_element.Goals as goal

pub returns-then-begins_with-clause-taken : goal.returns-then-begins_with-clause-taken
returns-then-begins_with-clause-taken c =
    element_taken _ _ _ _ _ _ c.in_ok-declared.ensures.taken c.in_ok-element.ensures.spelled c.in_ok-element.ensures.array c.in_ok-element.ensures.inside
    refl

pub returns-clause-taken : goal.returns-clause-taken
returns-clause-taken c =
    alone_taken _ _ _ _ c.in_ok-declared.ensures.taken c.in_ok-index.ensures.one c.in_ok-index.ensures.index

pub returns-in_err-index-clause-element : goal.returns-in_err-index-clause-element
returns-in_err-index-clause-element c = λ declared element behind rest name array taken inside.
    let parts = in_brackets behind rest (Number element) taken in
    absurd (c.begins_with.ensures.no c.if-begins_with.false parts.inside
    (moved_one c.in_ok-declared.rest.now behind parts.inside (Mark mark.LeftBracket)
    ((c.in_ok-declared.ensures.only declared behind name).1) parts.opens))
