use Rattle.core_commands.proofs.OfScript.{has_script, comes_to}
use Rattle.core_commands.proofs.script.perform_script.Goals as goal

pub returns-clause-refused : goal.returns-clause-refused
returns-clause-refused g c = (
  _,
  has_script c.args.settings.now c.args.image.now c.args.trace.now _ _ c.in_ok-trace.ensures.trace
      c.in_ok-script.ensures.made,
)

pub returns-in-Ok-clause-ended : goal.returns-in-Ok-clause-ended
returns-in-Ok-clause-ended g c =
    comes_to c.args.settings.now c.args.image.now c.args.trace.now _ _ _ _ c.in_ok-trace.ensures.trace
    c.in_ok-script.ensures.made c.in-Ok.ensures
