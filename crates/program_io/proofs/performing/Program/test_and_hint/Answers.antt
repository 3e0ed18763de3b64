use Rattle.std.proofs.Common.{sym}
use mathlib.Core.Logic.{inl, inr}
use Rattle.program_io.specs.Names.{owed}
use Rattle.program_io.proofs.OfSuites.{line_came}
use Rattle.program_io.proofs.performing.Program.test_and_hint.Goals as goal

pub returns-in-Ok-clause-ended : goal.returns-in-Ok-clause-ended
returns-in-Ok-clause-ended g c =
    let lent = c.lent-inputs.ensures in
    inr (rw (sym lent.config, sym lent.second) (line_came (λ source. owed source.names) _ _
    (λ source given after is. is) (λ source why after is. is) _ _ _ _ _ _ _ _ c.in-Ok.ensures.comes))

pub returns-in-Err-clause-ended : goal.returns-in-Err-clause-ended
returns-in-Err-clause-ended g c =
    let lent = c.lent-inputs.ensures in
    inl (record {
      why = c.in-Err.refused;
      has_status = sym c.refuse_line.ensures.status;
      refused = rw (sym lent.config, sym lent.second) c.in-Err.ensures.refused;
    })
