use Rattle.std.proofs.lemmas.Result.{on_ok_weaker}
use Rattle.reports.specs.Json.{json_text}
use Rattle.text_fields.proofs.Appending.{appends_more}
use Rattle.reports.proofs.json.report_json.Goals as goal

pub returns : goal.returns
unfolding json_text
returns g c =
    let harts = rw c.as_slice-statuses.ensures.value at c.in_ok-write_harts.ensures in
    let ended = rw c.as_slice-statuses.ensures.value at c.write_end.ensures in
    on_ok_weaker c.write_end.result
    (λ end. appends_more _ _ _ _ _ c.in_ok-write_sizes.ensures (appends_more _ _ _ _ _ harts
    (appends_more _ _ _ _ _ c.in_ok-write_output.ensures end)))
    ended
