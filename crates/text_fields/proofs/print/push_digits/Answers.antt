use Rattle.std.proofs.Common.{arith, rules}
use Rattle.text_fields.proofs.HexLemmas.{push_digit}
use Rattle.text_fields.proofs.print.push_digits.Goals as goal

pub loop-place-preserved : goal.loop-place-preserved
loop-place-preserved g c = record {
  spelled = push_digit _ _ _ c.loop-place.place c.args.value c.loop-place-test.true c.loop-place.invariant.spelled
      (rw (← c.hex_digit.ensures.spelled) c.push_ascii.ensures.spelled);
  length = omega arith;
}

pub loop-place-init : goal.loop-place-init
loop-place-init g c = search rules

pub push_ascii-requires : goal.push_ascii-requires
push_ascii-requires g c = search rules

pub returns-clause-spelled : goal.returns-clause-spelled
returns-clause-spelled g c = search rules

pub returns-clause-length : goal.returns-clause-length
returns-clause-length g c = search rules
