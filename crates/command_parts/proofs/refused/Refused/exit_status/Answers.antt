use Rattle.std.proofs.Common.{rules, refl}
use Rattle.command_parts.proofs.refused.Refused.exit_status.Goals as goal

pub returns-in-Image : goal.returns-in-Image
returns-in-Image c = record { status = search rules; apart = refl }
