use Rattle.std.proofs.Common.{◌≡◌, ◌∙◌, sym, subst, reverse}
use Rattle.chart_rows.specs.Rows.{AreRows}
use Rattle.prompts.proofs.Asking.{chart_is, history_in}
use Rattle.prompts.proofs.session.chart_of.Goals as goal

pub rows_of-requires-clause-history : goal.rows_of-requires-clause-history
rows_of-requires-clause-history c =
    history_in c.args.core.now c.history.result.now.items c.as_slice.result.now c.history.ensures.events
    c.history.ensures.legal (c.as_slice.ensures.value ∙ c.in_ok-events.ensures)

pub returns : goal.returns
returns c =
    let same = c.as_slice-2.ensures.value ∙ c.in_ok-events.ensures in
    let again : c.as_slice.result.now ≡ c.as_slice-2.result.now =
    c.as_slice.ensures.value ∙ sym c.as_slice-2.ensures.value in
    let are : AreRows (reverse c.as_slice-2.result.now) c.in_ok-rows.rows.items =
    subst (λ l. AreRows (reverse l) c.in_ok-rows.rows.items) again c.in_ok-rows.ensures.rows in
    chart_is c.args.core.now c.history.result.now.items c.as_slice-2.result.now c.as_slice-3.result.now _
    c.history.ensures.events c.history.ensures.within c.history.ensures.small same (rw c.as_slice-3.ensures.value are)
    c.in_ok-chart.ensures
