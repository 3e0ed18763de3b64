use Rattle.std.proofs.Common.{◌∙◌}
use Rattle.reasons.proofs.InParts.{none_free}
use Rattle.reasons.proofs.harts.no_register.Goals as goal

pub returns : goal.returns
returns c =
    c.is_empty.ensures
    ∙ none_free c.args.core.now.setup c.args.core.now.past _ c.free_registers.ensures.free c.free_registers.ensures.once
