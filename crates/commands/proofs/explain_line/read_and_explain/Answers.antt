use Rattle.command_parts.specs.Inputs.{as_read}
use Rattle.commands.proofs.OfExplain.{alone_comes_to, both_come_to}
use mathlib.Core.Logic.{inl}
use Rattle.commands.proofs.explain_line.read_and_explain.Goals as goal

pub returns-in-Err-clause-refused : goal.returns-in-Err-clause-refused
returns-in-Err-clause-refused g c = rw c.in_ok-text.was (inl c.in-Err.ensures.refused)

pub returns-in-None-clause-ended : goal.returns-in-None-clause-ended
returns-in-None-clause-ended g c =
    rw (c.in-None.is, c.in_ok-text.was)
    (alone_comes_to c.args.harts.now _ _ (as_read c.args.inputs.now.second) _ _ _ c.in-Ok.ensures.ended)

pub returns-in_ok-read_and_tell-in-Some-clause-ended : goal.returns-in_ok-read_and_tell-in-Some-clause-ended
returns-in_ok-read_and_tell-in-Some-clause-ended g c =
    rw (c.in-Some.is, c.in_ok-text.was)
    (both_come_to c.args.harts.now _ _ _ _ _ _ _ _ c.in-Ok.ensures.ended c.in_ok-read_and_tell-in-Some.ensures.told)
