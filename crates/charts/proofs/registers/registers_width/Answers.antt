use Rattle.std.proofs.Common.{◌≤◌, ◌∙◌, ◌+◌, arith, ap, sym, drop, length}
use Rattle.charts.specs.Found.{width_over}
use Rattle.charts.proofs.Lines.{next_found, no_found}
use Rattle.charts.proofs.registers.registers_width.Goals as goal

pub loop-number-preserved : goal.loop-number-preserved
loop-number-preserved c =
    let number = c.loop-number.number in
    ap (λ n. width_over c.args.view.now c.args.registers.now (number + 1) n (drop (number + 1) c.args.rows.now))
    c.wider-width.ensures
    ∙ sym (next_found c.args.view.now c.args.registers.now c.args.rows.now number c.loop-number.width _
    c.loop-number-test.true) ∙ c.loop-number.invariant

pub returns : goal.returns
returns c =
    let end : length c.args.rows.now ≤ c.loop-number.number = omega arith in
    sym (no_found c.args.view.now c.args.registers.now c.args.rows.now c.loop-number.number c.loop-number.width end)
    ∙ c.loop-number.invariant
