use Rattle.reports.specs.Tables.{registers_text}
use Rattle.reports.proofs.tables.write_registers.Goals as goal

pub returns : goal.returns
unfolding registers_text
returns g c = c.write_registers_below.ensures
