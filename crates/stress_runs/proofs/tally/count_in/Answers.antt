use Rattle.std.proofs.Common.{◌<◌, length, sym, ◌∙◌, arith}
use Rattle.stress_runs.proofs.Counting.{counted_here, counted_other, there_here, there_other}
use Rattle.stress_runs.proofs.tally.count_in.Goals as goal
use Rattle.stress_runs.proofs.tally.count_in.Goals.{then-is_one_end, else-is_one_end}

pub loop-row-preserved : goal.loop-row-preserved
loop-row-preserved c =
    let end = c.args.end.now in
    let l = c.loop-row in
    let xs = c.args.rows.now in
    let x = c.row-item.result in
    let inside : l.row-index < length xs = omega (arith, c.loop-row-test.true, l.auto.rows, l.auto.row-index-end) in
    elim c.if-is_one_end.branch [
      | then-is_one_end w ↦
          let same = sym c.is_one_end.ensures ∙ w.if-is_one_end.true in
          record {
            counted = w.rows-is
                ∙ counted_here end xs l.rows l.row-index x inside l.invariant.counted c.row-item.is same;
            there = w.there-is ∙ there_here end xs l.rows l.row-index x inside l.invariant.counted c.row-item.is same;
          }
      | else-is_one_end w ↦
          let other = sym c.is_one_end.ensures ∙ w.if-is_one_end.false in
          record {
            counted = w.rows-is
                ∙ counted_other end xs l.rows l.row-index x inside l.invariant.counted c.row-item.is other;
            there = w.there-is
                ∙ there_other end xs l.rows l.row-index x inside l.invariant.counted c.row-item.is l.there
                l.invariant.there other;
          }
    ]
