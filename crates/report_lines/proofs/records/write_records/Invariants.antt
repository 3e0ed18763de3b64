use Rattle.std.proofs.Common.{take, flat_map}
use Rattle.std.specs.Io.KnownBytes.{Appends}
use Rattle.address_labels.specs.Labels.{marks_of}
use Rattle.report_lines.specs.Lines.{record_line}
use Rattle.report_lines.proofs.records.write_records.Given as goal

-- the lines of the records so far are written
abbrev pub invariant-loop-record : goal.invariant-loop-record
invariant-loop-record g l = Appends (g.W.Write.contents l.fn.out) (g.W.Write.contents l.out)
    (flat_map (record_line (marks_of l.labels)) (take l.record-index l.records))
