use Rattle.std.proofs.lemmas.Result.{on_ok_weaker}
use Rattle.text_fields.proofs.Appending.{appends_more}
use Rattle.reports.proofs.json.write_member_of_counts.Goals as goal

pub returns : goal.returns
returns g c =
    on_ok_weaker c.write_all-2.result
    (λ last. appends_more _ _ _ _ _ c.in_ok-write_all.ensures.bytes
    (appends_more _ _ _ _ _ c.in_ok-write_counts.ensures (appends_more _ _ _ _ _ c.in_ok-write_idle.ensures last)))
    c.write_all-2.ensures.bytes
