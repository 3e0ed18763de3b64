use Rattle.std.proofs.Common.{refl}
use Rattle.rv_text.proofs.refused.TextRefused.number.Goals as goal

pub returns-in-OutOfRange : goal.returns-in-OutOfRange
returns-in-OutOfRange c = rw (c.in-OutOfRange.is) refl
