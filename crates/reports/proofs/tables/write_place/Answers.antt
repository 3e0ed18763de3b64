use Rattle.std.proofs.lemmas.Result.{on_ok_weaker}
use Rattle.text_fields.proofs.Appending.{appends_more}
use Rattle.reports.proofs.tables.write_place.Goals as goal

pub returns : goal.returns
returns g c =
    on_ok_weaker c.write_icount.result (λ last. appends_more _ _ _ _ _ c.in_ok-write_word.ensures last)
    c.write_icount.ensures
