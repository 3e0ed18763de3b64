use Rattle.std.proofs.lemmas.Result.{on_ok_weaker}
use Rattle.text_fields.proofs.Appending.{appends_more}
use Rattle.core_commands.proofs.account.write_counts.Goals as goal

pub returns : goal.returns
returns g c =
    let counted = rw c.as_slice-harts.ensures.value at c.in_ok-report_counts.ensures in
    on_ok_weaker c.report_idle.result (λ last. appends_more _ _ _ _ _ counted last) c.report_idle.ensures
