use Rattle.std.proofs.Common.{refl}
use Rattle.rv_text.proofs.refused.TextRefusedFromFieldError.from.Goals as goal

pub returns-in-OutOfRange : goal.returns-in-OutOfRange
returns-in-OutOfRange c = rw (c.in-OutOfRange.is) refl
