use Rattle.std.proofs.lemmas.Result.{on_ok_weaker}
use Rattle.text_fields.proofs.Appending.{appends_more}
use Rattle.reports.proofs.counts.write_squashes.Goals as goal

pub returns : goal.returns
returns g c =
    on_ok_weaker c.write_number-5.result
    (λ last. appends_more _ _ _ _ _ c.in_ok-write_number.ensures
    (appends_more _ _ _ _ _ c.in_ok-write_number-2.ensures
    (appends_more _ _ _ _ _ c.in_ok-write_number-3.ensures
    (appends_more _ _ _ _ _ c.in_ok-write_number-4.ensures last))))
    c.write_number-5.ensures
