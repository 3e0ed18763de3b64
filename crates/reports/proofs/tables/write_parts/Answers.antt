use Rattle.std.proofs.lemmas.Result.{on_ok_weaker}
use Rattle.text_fields.proofs.Appending.{appends_more}
use Rattle.reports.specs.Tables.{tables_text}
use Rattle.reports.proofs.tables.write_parts.Goals as goal

pub returns : goal.returns
unfolding tables_text
returns g c = on_ok_weaker c.write_registers.result (λ last. appends_more _ _ _ _ _ c.in_ok-write_harts.ensures (appends_more _ _ _ _ _ c.in_ok-write_queue.ensures (appends_more _ _ _ _ _ c.in_ok-write_jobs.ensures (appends_more _ _ _ _ _ c.in_ok-write_free.ensures last)))) c.write_registers.ensures
