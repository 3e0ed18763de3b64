use Rattle.std.proofs.lemmas.List.Elements.{All-more}
use Rattle.litmus_reading.specs.Starts.{IsOfHarts}
use Rattle.litmus_reading.proofs.Placeless.{location_entry, register_entry}
use Rattle.litmus_reading.proofs.Told.{all_told}
use Rattle.litmus_reading.proofs.start.check_harts.Goals.{in-Register+else-start-from, in_default}
use Rattle.litmus_reading.proofs.start.check_harts.Goals as goal

pub loop-entry-preserved : goal.loop-entry-preserved
loop-entry-preserved c = elim c.match-entry.branch [
  | in-Register+else-start-from w ↦ All-more (IsOfHarts c.args.harts) c.args.entries.now _ _ c.loop-entry-test.true
      c.loop-entry.invariant (register_entry _ _ _ _ w.in-Register.is w.if-start-from.false w.from.ensures)
  | in_default w ↦ All-more (IsOfHarts c.args.harts) c.args.entries.now _ _ c.loop-entry-test.true
      c.loop-entry.invariant (location_entry _ _ w.in_default.not-Register)
]

pub returns-clause-there : goal.returns-clause-there
returns-clause-there c =
    all_told (IsOfHarts c.args.harts) c.args.entries.now c.loop-entry.entry-index c.loop-entry-test.false
    c.loop-entry.invariant
