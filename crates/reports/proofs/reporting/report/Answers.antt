use Rattle.std.proofs.lemmas.Result.{on_ok_weaker}
use Rattle.text_fields.proofs.Appending.{appends_more}
use Rattle.reports.proofs.reporting.report.Goals as goal

pub returns : goal.returns
returns g c =
    let events = rw c.from.ensures at c.in_ok-report_count.ensures in
    let lent = rw c.from-2.ensures at c.in_ok-report_count-3.ensures in
    let end = rw c.as_slice.ensures.value at c.report_end.ensures in
    on_ok_weaker c.report_end.result
    (λ told. appends_more _ _ _ _ _ c.in_ok-report_records.ensures (appends_more _ _ _ _ _ events
    (appends_more _ _ _ _ _ c.in_ok-report_count-2.ensures (appends_more _ _ _ _ _ lent told))))
    end
