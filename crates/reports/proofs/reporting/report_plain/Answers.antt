use Rattle.std.proofs.lemmas.Result.{on_ok_weaker}
use Rattle.text_fields.proofs.Appending.{appends_more}
use Rattle.reports.proofs.reporting.report_plain.Goals as goal

pub returns : goal.returns
returns g c =
    let records = rw c.records.ensures at c.in_ok-report_records.ensures in
    let standing =
    rw (c.records-2.ensures, c.as_slice.ensures.value, c.statuses.ensures, c.output.ensures)
    at c.report_standing.ensures in
    on_ok_weaker c.report_standing.result (λ rest. appends_more _ _ _ _ _ records rest) standing
