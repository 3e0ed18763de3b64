use Rattle.std.proofs.Common.{refl, inr, rules}
use Rattle.std.proofs.lemmas.Result.{on_ok_weaker}
use Rattle.explanations.specs.ImageText.{damaged_line}
use Rattle.explanations.proofs.names.write_names.Goals as goal

pub returns-in-Err-Damaged : goal.returns-in-Err-Damaged
returns-in-Err-Damaged g c =
    on_ok_weaker c.write_damaged.result
    (λ told. (damaged_line, inr (inr (record { damaged = c.read.ensures.damaged (search rules); line = refl })), told))
    c.write_damaged.ensures
