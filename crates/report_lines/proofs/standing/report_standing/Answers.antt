use Rattle.std.proofs.lemmas.Result.{on_ok_weaker}
use Rattle.text_fields.proofs.Appending.{appends_more}
use Rattle.report_lines.proofs.standing.report_standing.Goals as goal

pub returns : goal.returns
returns g c =
    on_ok_weaker c.report_end.result (λ told. appends_more _ _ _ _ _ c.in_ok-report_count.ensures told)
    c.report_end.ensures
