use Rattle.std.proofs.Common.{◌≡◌, ◌∙◌, sym}
use Rattle.core_steps.proofs.Steps.SameOp.{op_same}
use Rattle.core_steps.proofs.complete.has_instruction.Goals as goal

pub returns-then-eq : goal.returns-then-eq
returns-then-eq c =
    let same : c.args.lent.now.op ≡ c.op.result =
    op_same c.args.lent.now.op c.op.result (sym c.eq.ensures ∙ c.if-eq.true) in (
      λ t. ((c.is_at.ensures.0 t).0, same ∙ c.op.ensures, (c.is_at.ensures.0 t).1),
      λ all. c.is_at.ensures.1 (all.0, all.2),
    )
