use Rattle.text_fields.proofs.Appending.{each_step}
use Rattle.symbols.specs.Tables.{table_of}
use Rattle.stuck_harts.specs.Lines.{spin_text}
use Rattle.stuck_harts.proofs.line.write_spins.Goals as goal

pub loop-index-preserved : goal.loop-index-preserved
loop-index-preserved g c =
    each_step (spin_text (table_of c.args.names.now)) _ _ _ c.args.spins.now c.loop-index.index _
    c.loop-index-test.true c.loop-index.invariant c.in_ok-write_spin.ensures
