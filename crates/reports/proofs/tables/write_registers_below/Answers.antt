use Rattle.report_lines.proofs.Appending.{below_step}
use Rattle.reports.specs.Tables.{register_line}
use Rattle.reports.proofs.tables.write_registers_below.Goals as goal

pub loop-register-preserved : goal.loop-register-preserved
loop-register-preserved g c =
    below_step (register_line c.args.registers c.args.free.now c.args.values.now) _ _ _ _ c.loop-register.invariant c.in_ok-write_register.ensures
