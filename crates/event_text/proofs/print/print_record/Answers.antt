use Rattle.std.proofs.Common.{rules}
use Rattle.event_text.proofs.print.print_record.Goals as goal

pub returns : goal.returns
returns c = search rules
