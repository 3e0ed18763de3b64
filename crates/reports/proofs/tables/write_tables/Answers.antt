use Rattle.std.proofs.Common.{refl}
use Rattle.std.proofs.lemmas.Result.{on_ok_weaker}
use Rattle.reports.specs.Tables.{tables_text}
use Rattle.reports.proofs.tables.write_tables.Goals as goal

pub returns : goal.returns
returns g c =
    let parts = c.parts-registers.ensures in
    on_ok_weaker c.write_parts.result
    (λ last. (
      tables_text c.harts.result c.parts-registers.result.1 c.parts-registers.result.0.now,
      record {
        parts = c.parts-registers.result.0.now;
        agree = parts.agrees;
        told = rw (c.harts.ensures.harts, parts.registers) refl;
      },
      last,
    ))
    c.write_parts.ensures
