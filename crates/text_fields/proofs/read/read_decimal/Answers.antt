use Rattle.std.proofs.Common.{sym, ◌∙◌}
use Rattle.text_fields.proofs.FirstLemmas.{counts_more, no_digit_there}
use Rattle.text_fields.proofs.read.read_decimal.Goals as goal

pub returns-then-not-is_ascii_digit-clause-field : goal.returns-then-not-is_ascii_digit-clause-field
returns-then-not-is_ascii_digit-clause-field c =
    sym (no_digit_there c.args.max c.loop-digit.digit-index c.args.text.now c.loop-digit-test.true
    (sym c.is_ascii_digit.ensures.value ∙ c.if-not-is_ascii_digit.true))

pub loop-digit-preserved : goal.loop-digit-preserved
loop-digit-preserved c = record {
  small = c.with_digit-value.ensures.small;
  here = counts_more c.args.max c.loop-digit.value c.with_digit-value.result c.loop-digit.digit-index c.args.text.now
      c.loop-digit-test.true c.loop-digit.invariant.here
      (sym c.is_ascii_digit.ensures.value ∙ c.if-not-is_ascii_digit.false)
      c.with_digit-value.ensures.below c.with_digit-value.ensures.above;
}
