use Rattle.std.proofs.Common.{arith, sym, ◌∙◌, ap}
use Rattle.std.specs.Char.{is_ascii_digit}
use Rattle.text_fields.specs.Reading.{decimal_field}
use Rattle.text_fields.proofs.FirstLemmas.{counts_more, ends_there, no_number, not_same, whole_field}
use Rattle.text_fields.proofs.LacksLaws.{Lacks-from_all}
use Rattle.text_fields.proofs.first.first_decimal.Goals as goal

pub returns-in-Err-clause-refused : goal.returns-in-Err-clause-refused
returns-in-Err-clause-refused c =
    let lacks = Lacks-from_all is_ascii_digit c.args.separator _ c.requires c.loop-place.invariant.here.all in
    let first = ends_there c.args.separator c.loop-place.place c.args.text.now lacks c.loop-place-test.true
    c.if-byte-separator.false in
    ap (decimal_field c.args.max) first.0 ∙ sym c.in-Err.ensures.field

pub returns-in-Ok-clause-read : goal.returns-in-Ok-clause-read
returns-in-Ok-clause-read c =
    let lacks = Lacks-from_all is_ascii_digit c.args.separator _ c.requires c.loop-place.invariant.here.all in
    let first = ends_there c.args.separator c.loop-place.place c.args.text.now lacks c.loop-place-test.true
    c.if-byte-separator.false in
    ap (decimal_field c.args.max) first.0 ∙ sym c.in-Ok.ensures.field

pub returns-in-Ok-clause-others : goal.returns-in-Ok-clause-others
returns-in-Ok-clause-others c =
    let lacks = Lacks-from_all is_ascii_digit c.args.separator _ c.requires c.loop-place.invariant.here.all in
    (ends_there c.args.separator c.loop-place.place c.args.text.now lacks c.loop-place-test.true
    c.if-byte-separator.false).1

pub returns-then-byte-separator-clause-refused : goal.returns-then-byte-separator-clause-refused
returns-then-byte-separator-clause-refused c =
    let lacks = Lacks-from_all is_ascii_digit c.args.separator _ c.requires c.loop-place.invariant.here.all in
    no_number c.args.separator c.loop-place.place c.args.text.now lacks c.loop-place-test.true c.args.max
    (not_same _ _ c.if-byte-separator.true) (sym c.is_ascii_digit.ensures.value ∙ c.if-not-is_ascii_digit.true)

pub loop-place-preserved : goal.loop-place-preserved
loop-place-preserved c = record {
  small = c.with_digit-value.ensures.small;
  here = counts_more c.args.max c.loop-place.value c.with_digit-value.result c.loop-place.place c.args.text.now
      c.loop-place-test.true c.loop-place.invariant.here
      (sym c.is_ascii_digit.ensures.value ∙ c.if-not-is_ascii_digit.false)
      c.with_digit-value.ensures.below c.with_digit-value.ensures.above;
}

pub returns-in-Err-counted-clause-refused : goal.returns-in-Err-counted-clause-refused
returns-in-Err-counted-clause-refused c =
    let lacks = Lacks-from_all is_ascii_digit c.args.separator _ c.requires c.loop-place.invariant.here.all in
    let whole = whole_field c.args.separator c.loop-place.place c.args.text.now lacks
    (omega (arith, c.loop-place-test.false)) in
    ap (decimal_field c.args.max) whole.0 ∙ sym c.in-Err-counted.ensures.field

pub returns-in-Ok-counted-clause-read : goal.returns-in-Ok-counted-clause-read
returns-in-Ok-counted-clause-read c =
    let lacks = Lacks-from_all is_ascii_digit c.args.separator _ c.requires c.loop-place.invariant.here.all in
    let whole = whole_field c.args.separator c.loop-place.place c.args.text.now lacks
    (omega (arith, c.loop-place-test.false)) in
    ap (decimal_field c.args.max) whole.0 ∙ sym c.in-Ok-counted.ensures.field

pub returns-in-Ok-counted-clause-others : goal.returns-in-Ok-counted-clause-others
returns-in-Ok-counted-clause-others c =
    let lacks = Lacks-from_all is_ascii_digit c.args.separator _ c.requires c.loop-place.invariant.here.all in
    (whole_field c.args.separator c.loop-place.place c.args.text.now lacks (omega (arith, c.loop-place-test.false))).1
