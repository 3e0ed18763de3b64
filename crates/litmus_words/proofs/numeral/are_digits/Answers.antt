use Rattle.std.proofs.Common.{◌≡◌, true, sym, ◌∙◌}
use Rattle.std.proofs.lemmas.List.Elements.{All-more}
use Rattle.litmus_words.specs.Numbers.{is_digit}
use Rattle.litmus_words.proofs.Digits.{all_digits, not_all}
use Rattle.litmus_words.proofs.numeral.are_digits.Goals as goal

pub loop-digit-preserved : goal.loop-digit-preserved
loop-digit-preserved c =
    All-more (λ digit. is_digit c.args.base digit ≡ true) c.args.digits.now _ _ c.loop-digit-test.true
    c.loop-digit.invariant (sym c.is_digit.ensures ∙ c.if-not-is_digit.false)

pub returns-then-not-is_digit-clause-other : goal.returns-then-not-is_digit-clause-other
returns-then-not-is_digit-clause-other c = λ is all.
    not_all (is_digit c.args.base) c.args.digits.now _ _ c.loop-digit-test.true
    (sym c.is_digit.ensures ∙ c.if-not-is_digit.true) all

pub returns-clause-are : goal.returns-clause-are
returns-clause-are c = λ is.
    all_digits (λ digit. is_digit c.args.base digit ≡ true) c.args.digits.now c.loop-digit.digit-index
    c.loop-digit-test.false c.loop-digit.invariant
