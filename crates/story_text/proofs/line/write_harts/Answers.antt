use Rattle.report_lines.proofs.Appending.{below_step}
use Rattle.story_text.specs.Fields.{head_cell}
use Rattle.story_text.proofs.line.write_harts.Goals as goal

pub loop-hart-preserved : goal.loop-hart-preserved
loop-hart-preserved g c =
    below_step (head_cell c.args.harts) _ _ _ c.loop-hart.hart c.loop-hart.invariant c.in_ok-write_hart.ensures
