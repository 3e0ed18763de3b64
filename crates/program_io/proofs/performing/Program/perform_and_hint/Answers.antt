use Rattle.std.proofs.Common.{sym}
use Rattle.program_io.proofs.performing.Program.perform_and_hint.Goals as goal

pub returns-in-Some-clause-refused : goal.returns-in-Some-clause-refused
returns-in-Some-clause-refused g c =
    let lent = c.lent-inputs.ensures in
    rw (sym lent.config, sym lent.program, sym lent.second, sym lent.lines) c.perform-status.ensures.refused

pub returns-in-Some-clause-comes : goal.returns-in-Some-clause-comes
returns-in-Some-clause-comes g c = λ says.
    let lent = c.lent-inputs.ensures in record {
      after = c.perform-status.new.context.files;
      comes = rw (sym lent.config, sym lent.program, sym lent.second, sym lent.lines)
          (c.perform-status.ensures.ended says);
    }

pub returns-in_default-clause-comes : goal.returns-in_default-clause-comes
returns-in_default-clause-comes g c = λ says.
    let lent = c.lent-inputs.ensures in record {
      after = c.perform-status.new.context.files;
      comes = rw (sym lent.config, sym lent.program, sym lent.second, sym lent.lines)
          (c.perform-status.ensures.ended says);
    }
