use Rattle.std.proofs.Common.{refl}
use Rattle.rv_text.specs.Reading.{end_at}
use Rattle.rv_text.proofs.fields.expect_end.Goals as goal

pub returns : goal.returns
unfolding end_at
returns c = rw (c.in_ok-text_after.ensures, ← c.if-not-is_empty.ensures) refl
