use Rattle.text_fields.proofs.Appending.{flat_step}
use Rattle.reports.specs.Tables.{entry_text}
use Rattle.reports.proofs.tables.write_entries.Goals as goal

pub loop-entry-preserved : goal.loop-entry-preserved
loop-entry-preserved g c =
    flat_step entry_text _ _ _ _ _ _ c.loop-entry-test.true c.loop-entry.invariant c.in_ok-write_entry.ensures
