use Rattle.std.proofs.lemmas.Result.{on_ok_weaker}
use Rattle.reports.specs.Counts.{counts_text}
use Rattle.text_fields.proofs.Appending.{appends_more}
use Rattle.reports.proofs.counts.write_counts.Goals as goal

pub returns : goal.returns
unfolding counts_text
returns g c =
    on_ok_weaker c.write_units.result
    (λ units. appends_more _ _ _ _ _ c.in_ok-write_events.ensures
    (appends_more _ _ _ _ _ c.in_ok-write_outcomes.ensures units))
    c.write_units.ensures
