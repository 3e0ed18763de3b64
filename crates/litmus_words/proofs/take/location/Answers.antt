use Rattle.litmus_words.proofs.Taking.{bracketed}
use Rattle.litmus_words.specs.declared.word.Token.TheVariants.{Location}
use Rattle.litmus_words.proofs.Only.{bracket_location, location_parts, location_without, moved_one}
use Rattle.litmus_words.proofs.take.location.Goals as goal

pub returns-in_ok-rest-in-Some-clause-taken : goal.returns-in_ok-rest-in-Some-clause-taken
returns-in_ok-rest-in-Some-clause-taken c =
    bracketed _ _ _ _ _ _ c.in-Some.ensures.spelled c.in_ok-declared-in-Some.ensures.taken c.in_ok-index-in-Some.ensures.one
    c.in_ok-index-in-Some.ensures.index c.in_ok-rest-in-Some.ensures.spelled

pub returns-in_err-declared-in-Some-clause-only : goal.returns-in_err-declared-in-Some-clause-only
returns-in_err-declared-in-Some-clause-only c = λ index rest taken no_index.
    let it = bracket_location c.args.words.now rest c.in-Some.inner.now index c.in-Some.ensures.spelled
    (location_parts c.args.words.now rest index taken) in
    absurd (c.in_err-declared-in-Some.ensures.only it.declared it.parts.last
    (moved_one c.in-Some.inner.now it.parts.inside it.parts.last (Location it.declared)
    (c.in-Some.ensures.only it.parts.inside it.parts.opens) it.parts.one))

pub returns-in-None-clause-only : goal.returns-in-None-clause-only
returns-in-None-clause-only c = λ index rest taken no_index.
    location_without c.args.words.now rest index _ c.in-None.ensures.only c.location_or_element.ensures.alone
    c.location_or_element.ensures.element no_index (location_parts c.args.words.now rest index taken)
