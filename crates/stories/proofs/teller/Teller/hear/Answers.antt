use Rattle.std.proofs.Common.{◌∙◌, arith}
use Rattle.stories.proofs.Hearing.{heard_then, one_more}
use Rattle.stories.proofs.teller.Teller.hear.Goals as goal

pub loop-hart-preserved : goal.loop-hart-preserved
loop-hart-preserved c = (
  c.hear_of.ensures.length ∙ c.loop-hart.invariant.0,
  λ h d. one_more h c.loop-hart.hart _ _ _ _ (c.hear_of.ensures.each h d) (c.loop-hart.invariant.1 h d),
)

pub returns : goal.returns
returns c = λ past has. record {
  each = λ h d inside. heard_then h _ c.args.row.now past _ _ (has.each h d inside) (omega (arith, inside))
      (c.loop-hart.invariant.1 h d);
}
