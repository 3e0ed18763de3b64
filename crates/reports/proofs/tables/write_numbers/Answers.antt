use Rattle.text_fields.proofs.Appending.{flat_step}
use Rattle.std.specs.Prelude.{codes}
use Rattle.reports.specs.Tables.{number_text}
use Rattle.reports.proofs.tables.write_numbers.Goals as goal

pub loop-register-preserved : goal.loop-register-preserved
loop-register-preserved g c =
    flat_step (number_text (codes " ")) _ _ _ _ _ _ c.loop-register-test.true c.loop-register.invariant c.in_ok-write_free_register.ensures
