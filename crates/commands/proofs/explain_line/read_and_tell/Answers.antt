-- Behind a text that is refused.
use Rattle.std.specs.Prelude.{Ok}
use Rattle.commands.proofs.OfExplain.{beside_refusal}
use Rattle.commands.proofs.explain_line.read_and_tell.Goals as goal

pub returns-clause-refused : goal.returns-clause-refused
returns-clause-refused g c =
    rw (c.in_ok-bytes.was, c.in_ok-text.was)
    (beside_refusal c.args.harts.now c.args.beside.now c.args.config.now _ _ _ (Ok c.in_ok-text.text.now)
    c.in-Err.refused
    c.in_ok-own.ensures.settings c.in_ok-image.ensures.passed c.in_ok-image.ensures.image
    (rw c.settings_with-settings.ensures.value at c.in-Err.ensures.refused))
