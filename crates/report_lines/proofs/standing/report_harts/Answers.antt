use Rattle.report_lines.specs.Lines.{hart_line}
use Rattle.text_fields.proofs.Appending.{each_step}
use Rattle.report_lines.proofs.standing.report_harts.Goals as goal

pub loop-hart-preserved : goal.loop-hart-preserved
loop-hart-preserved g c =
    each_step hart_line _ _ _ _ _ _ c.loop-hart-test.true c.loop-hart.invariant c.in_ok-report_hart.ensures
