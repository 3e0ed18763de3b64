use Rattle.std.proofs.Common.{◌≡◌, ◌∙◌, ◌≤◌, arith, sym, length}
use Rattle.charts.specs.Whys.{is_shown_crossed}
use Rattle.charts.proofs.Lines.{found_at, none_at_all, none_crossed, none_crossed_before, still_none}
use Rattle.charts.proofs.text.why.crossed_row.Goals as goal

pub loop-number-init : goal.loop-number-init
loop-number-init c over =
    none_crossed_before c.args.rows.now c.args.shown.now c.args.column c.args.by c.args.first over

pub loop-number-preserved : goal.loop-number-preserved
loop-number-preserved c over =
    still_none (is_shown_crossed c.args.shown.now c.args.column c.args.by) c.args.rows.now c.loop-number.number _
    c.loop-number-test.true (sym c.is_shown_crossed.ensures ∙ c.if-is_shown_crossed.false)
    (c.loop-number.invariant over)

pub returns-then-row-shown : goal.returns-then-row-shown
returns-then-row-shown c by over =
    sym (none_crossed c.args.rows.now c.args.shown.now c.args.column c.args.by c.loop-number.number _ by
    c.loop-number-test.true c.if-row-shown.true (c.loop-number.invariant over))

pub returns-then-is_shown_crossed : goal.returns-then-is_shown_crossed
returns-then-is_shown_crossed c by over =
    sym (found_at (is_shown_crossed c.args.shown.now c.args.column c.args.by) c.args.rows.now c.loop-number.number _
    c.loop-number-test.true (c.loop-number.invariant over)
    (sym c.is_shown_crossed.ensures ∙ c.if-is_shown_crossed.true))

pub returns : goal.returns
returns c by over =
    let end : length c.args.rows.now ≤ c.loop-number.number = omega arith in
    sym (none_at_all c.args.rows.now c.args.shown.now c.args.column c.args.by c.loop-number.number end
    (c.loop-number.invariant over))
