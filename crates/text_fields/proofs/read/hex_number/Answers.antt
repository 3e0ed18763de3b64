use Rattle.std.proofs.Common.{arith, get_or}
use Rattle.text_fields.proofs.DigitTable.{says, sum_bounded, sum_next, weighed_next, weight_bounded}
use Rattle.text_fields.proofs.HexLaws.{digits_small}
use Rattle.text_fields.proofs.read.hex_number.Goals as goal

pub overflow_mul-sum : goal.overflow_mul-sum
overflow_mul-sum c =
    let room = sum_bounded c.loop-digit.digit-index c.loop-digit.sum (omega arith) c.loop-digit.invariant.small in
    omega (arith, room)

pub overflow_add-sum : goal.overflow_add-sum
overflow_add-sum c =
    let room = sum_bounded c.loop-digit.digit-index c.loop-digit.sum (omega arith) c.loop-digit.invariant.small in
    let little = weight_bounded (get_or c.args.digits.now c.loop-digit.digit-index 0) in
    omega (arith, room, c.weight.ensures, little)

pub loop-digit-preserved : goal.loop-digit-preserved
loop-digit-preserved c =
    let little = weight_bounded (get_or c.args.digits.now c.loop-digit.digit-index 0) in
    record {
      small = sum_next c.loop-digit.digit-index c.loop-digit.sum c.weight.result (omega (arith, c.weight.ensures, little))
          c.loop-digit.invariant.small;
      whole = rw c.weight.ensures (weighed_next c.loop-digit.sum c.loop-digit.digit-index c.args.digits.now
          c.loop-digit-test.true c.loop-digit.invariant.whole);
    }

pub returns-then-sum-ge-NO-clause-other : goal.returns-then-sum-ge-NO-clause-other
returns-then-sum-ge-NO-clause-other c =
    (says c.loop-digit.sum c.loop-digit.digit-index c.args.digits.now (omega arith) c.requires
    c.loop-digit.invariant.whole).other c.if-sum-ge-NO.true

pub returns-clause-all : goal.returns-clause-all
returns-clause-all c =
    (says c.loop-digit.sum c.loop-digit.digit-index c.args.digits.now (omega arith) c.requires
    c.loop-digit.invariant.whole).digits c.if-sum-ge-NO.false

pub returns-clause-value : goal.returns-clause-value
returns-clause-value c =
    (says c.loop-digit.sum c.loop-digit.digit-index c.args.digits.now (omega arith) c.requires
    c.loop-digit.invariant.whole).value c.if-sum-ge-NO.false

pub returns-clause-small : goal.returns-clause-small
returns-clause-small c =
    let said = says c.loop-digit.sum c.loop-digit.digit-index c.args.digits.now (omega arith) c.requires
    c.loop-digit.invariant.whole in
    rw (said.value c.if-sum-ge-NO.false) (digits_small c.args.digits.now (said.digits c.if-sum-ge-NO.false))
