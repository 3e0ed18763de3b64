use Rattle.std.proofs.Common.{◌∙◌, sym}
use Rattle.litmus_tests.specs.declared.condition.Condition.{Holds}
use Rattle.litmus_words.specs.declared.word.Token.TheVariants.{Mark}
use Rattle.litmus_words.specs.declared.word.Mark.TheVariants as mark
use Rattle.litmus_words.proofs.Only.{moved_one, one_first}
use Rattle.litmus_reading.proofs.Conditions.{differs_other, equals_other, negates_same, no_index, not_equals, of_other, of_term, same_term, term_parts, term_taken}
use Rattle.litmus_reading.proofs.Fitted.{moved_value}
use Rattle.litmus_reading.proofs.condition.read_term.Goals as goal

pub returns-clause-taken : goal.returns-clause-taken
returns-clause-taken c =
    of_term _ _ _ _ _ _ (term_taken _ _ _ _ _ _ c.in_ok-observed.ensures.taken c.in_ok-behind.ensures.spelled
    c.in_ok-value.ensures.taken c.width_at-width.ensures) c.in_ok-observed.ensures.there
    c.in_ok-count_leaf-2.ensures.counted c.in_ok-count_leaf-2.ensures.few

pub returns-in-Some-clause-taken : goal.returns-in-Some-clause-taken
returns-in-Some-clause-taken c =
    of_other _ _ _ _ _ _ _ (term_taken _ _ _ _ _ _ c.in_ok-observed.ensures.taken c.in-Some.ensures.spelled
    c.in_ok-other.ensures.taken c.width_at-width.ensures) c.in_ok-whole.ensures c.in_ok-observed.ensures.there
    c.in_ok-count_leaf.ensures.counted c.in_ok-count_leaf.ensures.few

pub returns-in_err-observed-clause-only_equal : goal.returns-in_err-observed-clause-only_equal
returns-in_err-observed-clause-only_equal c = λ term rest it there no_bracket no_plus few.
    let parts = term_parts (Mark mark.Equals) c.args.words.now rest term it in
    let over = no_index parts.between parts.behind (Mark mark.Equals) parts.middle equals_other in
    absurd (c.in_err-observed.ensures.only term.observed parts.between parts.observed there over)

pub returns-in_err-observed-clause-only_other : goal.returns-in_err-observed-clause-only_other
returns-in_err-observed-clause-only_other c = λ term rest it there no_bracket no_plus few.
    let parts = term_parts (Mark mark.Differs) c.args.words.now rest term it in
    let over = no_index parts.between parts.behind (Mark mark.Differs) parts.middle differs_other in
    absurd (c.in_err-observed.ensures.only term.observed parts.between parts.observed there over)

pub returns-in_err-other-clause-only_other : goal.returns-in_err-other-clause-only_other
returns-in_err-other-clause-only_other c = λ term rest it there no_bracket no_plus few.
    let parts = term_parts (Mark mark.Differs) c.args.words.now rest term it in
    let over = no_index parts.between parts.behind (Mark mark.Differs) parts.middle differs_other in
    let looked = c.in_ok-observed.ensures.only term.observed parts.between parts.observed there over in
    let there_behind = c.in-Some.ensures.only parts.behind (moved_one c.in_ok-observed.rest.now parts.between parts.behind
    (Mark mark.Differs) looked.1 parts.middle) in
    let held = moved_value c.width_at-width.result term.width c.in-Some.behind.now parts.behind rest term.value
    (c.width_at-width.ensures ∙ sym parts.wide) there_behind parts.value in
    absurd (c.in_err-other.ensures.only term.value rest held no_bracket no_plus)

pub returns-in_err-value-clause-only_equal : goal.returns-in_err-value-clause-only_equal
returns-in_err-value-clause-only_equal c = λ term rest it there no_bracket no_plus few.
    let parts = term_parts (Mark mark.Equals) c.args.words.now rest term it in
    let over = no_index parts.between parts.behind (Mark mark.Equals) parts.middle equals_other in
    let looked = c.in_ok-observed.ensures.only term.observed parts.between parts.observed there over in
    let there_behind = c.in_ok-behind.ensures.only parts.behind (moved_one c.in_ok-observed.rest.now parts.between parts.behind
    (Mark mark.Equals) looked.1 parts.middle) in
    let held = moved_value c.width_at-width.result term.width c.in_ok-behind.behind.now parts.behind rest term.value
    (c.width_at-width.ensures ∙ sym parts.wide) there_behind parts.value in
    absurd (c.in_err-value.ensures.only term.value rest held no_bracket no_plus)

pub returns-in-Some-clause-only_equal : goal.returns-in-Some-clause-only_equal
returns-in-Some-clause-only_equal c = λ term rest it there no_bracket no_plus few.
    let parts = term_parts (Mark mark.Equals) c.args.words.now rest term it in
    let over = no_index parts.between parts.behind (Mark mark.Equals) parts.middle equals_other in
    let looked = c.in_ok-observed.ensures.only term.observed parts.between parts.observed there over in
    absurd (not_equals (one_first c.in_ok-observed.rest.now c.in-Some.behind.now parts.behind (Mark mark.Differs)
    (Mark mark.Equals) c.in-Some.ensures.spelled (moved_one c.in_ok-observed.rest.now parts.between parts.behind
    (Mark mark.Equals) looked.1 parts.middle)))

pub returns-in-Some-clause-only_other : goal.returns-in-Some-clause-only_other
returns-in-Some-clause-only_other c = λ term rest it there no_bracket no_plus few.
    let parts = term_parts (Mark mark.Differs) c.args.words.now rest term it in
    let over = no_index parts.between parts.behind (Mark mark.Differs) parts.middle differs_other in
    let looked = c.in_ok-observed.ensures.only term.observed parts.between parts.observed there over in
    let there_behind = c.in-Some.ensures.only parts.behind (moved_one c.in_ok-observed.rest.now parts.between parts.behind
    (Mark mark.Differs) looked.1 parts.middle) in
    let held = moved_value c.width_at-width.result term.width c.in-Some.behind.now parts.behind rest term.value
    (c.width_at-width.ensures ∙ sym parts.wide) there_behind parts.value in
    let number = c.in_ok-other.ensures.only term.value rest held no_bracket no_plus in (
      negates_same _ term c.in_ok-whole.whole (same_term _ term looked.0 number.0 (c.width_at-width.ensures ∙ sym parts.wide))
          c.in_ok-whole.ensures,
      number.1,
      c.in_ok-count_leaf.ensures.counted,
    )

pub returns-clause-only_equal : goal.returns-clause-only_equal
returns-clause-only_equal c = λ term rest it there no_bracket no_plus few.
    let parts = term_parts (Mark mark.Equals) c.args.words.now rest term it in
    let over = no_index parts.between parts.behind (Mark mark.Equals) parts.middle equals_other in
    let looked = c.in_ok-observed.ensures.only term.observed parts.between parts.observed there over in
    let there_behind = c.in_ok-behind.ensures.only parts.behind (moved_one c.in_ok-observed.rest.now parts.between parts.behind
    (Mark mark.Equals) looked.1 parts.middle) in
    let held = moved_value c.width_at-width.result term.width c.in_ok-behind.behind.now parts.behind rest term.value
    (c.width_at-width.ensures ∙ sym parts.wide) there_behind parts.value in
    let number = c.in_ok-value.ensures.only term.value rest held no_bracket no_plus in (
      (λ k. Holds (same_term _ term looked.0 number.0 (c.width_at-width.ensures ∙ sym parts.wide) k)),
      number.1,
      c.in_ok-count_leaf-2.ensures.counted,
    )
