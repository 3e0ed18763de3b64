use Rattle.std.proofs.Common.{rules}
use Rattle.address_labels.specs.Texts.{labels_text}
use Rattle.report_lines.proofs.records.write_bare_record.Goals as goal

pub returns : goal.returns
unfolding labels_text
returns g c = search rules
