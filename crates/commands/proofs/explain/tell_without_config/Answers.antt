use Rattle.std.proofs.Common.{◌≡◌, Err, rules}
use Rattle.command_parts.specs.Inputs.{as_read}
use Rattle.command_parts.specs.declared.refused.Unread.TheVariants as unread
use Rattle.commands.proofs.OfExplain.{prints_nothing}
use Rattle.commands.proofs.explain.tell_without_config.Goals as goal

pub returns-in-Err-File-clause-printed : goal.returns-in-Err-File-clause-printed
returns-in-Err-File-clause-printed g c =
    let read : as_read c.args.image ≡ Err unread.File = search rules in
    prints_nothing (g.W.Write.contents c.args.out.now) (as_read c.args.image) read
