use Rattle.std.proofs.Common.{sym, ◌∙◌, arith}
use Rattle.litmus_words.proofs.Once.{ends_at_end, ends_before, one_further}
use Rattle.litmus_words.proofs.lexer.name_end.Goals as goal

pub loop-at-preserved : goal.loop-at-preserved
loop-at-preserved c = record {
  on = omega (arith, c.loop-at.invariant.on);
  inside = omega (arith, c.loop-at-test.true);
  each = one_further c.args.text.now c.args.from c.loop-at.at c.loop-at.invariant.each
      (sym c.is_of_name.ensures ∙ c.if-not-is_of_name.false);
}

pub returns-then-not-is_of_name-clause-whole : goal.returns-then-not-is_of_name-clause-whole
returns-then-not-is_of_name-clause-whole c =
    ends_before c.args.text.now c.args.from c.loop-at.at c.loop-at.invariant.each
    (sym c.is_of_name.ensures ∙ c.if-not-is_of_name.true)

pub returns-clause-whole : goal.returns-clause-whole
returns-clause-whole c =
    ends_at_end c.args.text.now c.args.from c.loop-at.at c.loop-at.invariant.each c.loop-at-test.false
