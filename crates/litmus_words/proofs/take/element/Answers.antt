use Rattle.litmus_words.specs.declared.word.Token.TheVariants.{Number}
use Rattle.litmus_words.proofs.Only.{in_brackets, moved_one}
use Rattle.litmus_words.proofs.Taking.{indexed}
use Rattle.litmus_words.proofs.take.element.Goals as goal

pub returns-clause-spelled : goal.returns-clause-spelled
returns-clause-spelled c =
    indexed _ _ _ _ _ c.in_ok-rest.ensures.spelled c.in_ok-element.ensures.taken c.in_ok-after.ensures.spelled

pub returns-in_err-rest-clause-only : goal.returns-in_err-rest-clause-only
returns-in_err-rest-clause-only c = λ element rest array taken inside.
    let parts = in_brackets c.args.words.now rest (Number element) taken in
    absurd (c.in_err-rest.ensures.only parts.inside parts.opens)

pub returns-in_err-element-clause-only : goal.returns-in_err-element-clause-only
returns-in_err-element-clause-only c = λ element rest array taken inside.
    let parts = in_brackets c.args.words.now rest (Number element) taken in
    absurd (c.in_err-element.ensures.only element parts.last
    (moved_one c.in_ok-rest.rest.now parts.inside parts.last (Number element)
    (c.in_ok-rest.ensures.only parts.inside parts.opens) parts.one))
