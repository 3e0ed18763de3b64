-- The lines of sources that are lent are those that were read.
use Rattle.std.proofs.Common.{◌≡◌, Option, Some, None, ap}
use Rattle.std.specs.{Borrow.Bor, Prelude.option_copied}
use Rattle.source_lines.specs.declared.reading.SourceLines.{SourceLines}
use Rattle.address_labels.specs.Labels.{lines_in}
use Rattle.commands.specs.Commands.{origins_in}

pub lent_lines : (lent : Option (Bor SourceLines)) (lines : Option SourceLines) → option_copied lent ≡ lines
    → lines_in lent ≡ origins_in lines
lent_lines None lines same = ap origins_in same
lent_lines (Some one) lines same = ap origins_in same
