use Rattle.text_fields.proofs.Appending.{flat_step}
use Rattle.address_labels.specs.Labels.{marks_of}
use Rattle.report_lines.specs.Lines.{record_line}
use Rattle.report_lines.proofs.records.write_records.Goals as goal

pub loop-record-preserved : goal.loop-record-preserved
loop-record-preserved g c =
    flat_step (record_line (marks_of c.args.labels.now)) _ _ _ _ _ _ c.loop-record-test.true c.loop-record.invariant c.in_ok-write_record.ensures
