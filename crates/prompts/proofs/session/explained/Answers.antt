use Rattle.std.proofs.Common.{◌-◌, length}
use Rattle.prompts.proofs.Lines.{in_range_held}
use Rattle.prompts.proofs.session.explained.Goals as goal

pub ask_all-requires : goal.ask_all-requires
ask_all-requires g c = in_range_held (length c.args.lines.now - 1) c.args.lines.now c.requires
