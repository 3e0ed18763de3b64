use Rattle.std.proofs.Common.{◌≡◌, ◌≤◌, ◌<◌, ℕ, arith, ap, sym, subst}
use Rattle.std.specs.Io.KnownBytes.{Appends}
use Rattle.chart_rows.specs.{declared.view.View.View, Order.AreOver}
use Rattle.charts.specs.Whys.{why_text}
use Rattle.charts.proofs.Lines.{next_why, one_less}
use Rattle.charts.proofs.text.why.write_whys.Goals as goal

pub loop-place-preserved : goal.loop-place-preserved
loop-place-preserved g c by over =
    let chart = c.args.chart.now in
    let shown = c.within-shown.result in
    let place = c.loop-place.place in
    let below : place ≤ c.last-to.result = omega (arith, c.loop-place-test.true) in
    let ended : AreOver chart.rows.now c.args.first shown.from =
    subst (λ (n : ℕ). AreOver chart.rows.now c.args.first n) (sym (ap (λ (v : View). v.from) c.within-shown.ensures))
    over in
    one_less (g.W.Write.contents c.args.out.now) (g.W.Write.contents c.loop-place.out)
    (g.W.Write.contents c.write_why.new.out)
    (why_text chart.rows.now chart.events.now shown chart.columns.now place) _ _ _
    (next_why chart.rows.now chart.events.now shown chart.columns.now place c.last-to.result below)
    (c.loop-place.invariant by over) (c.in_ok-write_why.ensures by ended)
