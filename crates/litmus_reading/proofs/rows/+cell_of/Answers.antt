use Rattle.std.proofs.Common.{ℕ, sym, ap, ◌∙◌}
use Rattle.litmus_reading.specs.Rows.{cell_at}
use Rattle.litmus_reading.proofs.Cells.{first_cell, next_cell}
use Rattle.litmus_reading.proofs.rows.+cell_of.Goals as goal

pub returns-then-hart-eq0 : goal.returns-then-hart-eq0
returns-then-hart-eq0 t c =
    first_cell c.args.row.now _ _ c.cut.ensures.cut c.cut.ensures.first
    ∙ ap (λ (n : ℕ). cell_at n c.args.row.now) (sym c.if-hart-eq0.true)

pub returns : goal.returns
returns t c =
    c.cell_of.ensures
    ∙ next_cell c.args.hart c.args.row.now _ _ c.if-hart-eq0.false c.cut.ensures.cut c.cut.ensures.first
