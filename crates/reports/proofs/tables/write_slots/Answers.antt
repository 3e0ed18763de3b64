use Rattle.text_fields.proofs.Appending.{flat_step}
use Rattle.reports.specs.Tables.{slot_text}
use Rattle.reports.proofs.tables.write_slots.Goals as goal

pub loop-slot-preserved : goal.loop-slot-preserved
loop-slot-preserved g c =
    flat_step slot_text _ _ _ _ _ _ c.loop-slot-test.true c.loop-slot.invariant c.in_ok-write_slot.ensures
