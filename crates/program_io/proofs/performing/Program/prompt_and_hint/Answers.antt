use Rattle.std.proofs.Common.{sym}
use Rattle.program_io.proofs.performing.Program.prompt_and_hint.Goals as goal

pub returns-clause-comes : goal.returns-clause-comes
returns-clause-comes g c = λ says.
    let lent = c.lent-inputs.ensures in record {
      input = g.S.Reader.Read.remaining c.reader-reader.result;
      after = c.perform_typed-status.new.context.files;
      comes = rw (sym lent.config, sym lent.program, sym lent.lines) (c.perform_typed-status.ensures.ended says);
    }
