use Rattle.outcome_text.specs.Listing.{told_line}
use Rattle.text_fields.proofs.Appending.{told_step}
use Rattle.outcome_text.proofs.listing.write_lines.Goals as goal

pub loop-index-preserved : goal.loop-index-preserved
loop-index-preserved g c =
    told_step (told_line c.args.columns.now.registers.items c.args.columns.now.words.items) _ _ _ c.args.outcomes.now.listed c.loop-index.index _
    c.loop-index-test.true c.count-index-end.ensures c.loop-index.invariant c.in_ok-write_line_at.ensures
