use Rattle.std.proofs.Common.{arith, sym, ◌∙◌}
use Rattle.std.proofs.lemmas.Grind.{common_steps}
use Rattle.scripts.proofs.Pieces.{pieces_none, pieces_some}
use Rattle.scripts.proofs.splitting.any_piece.Goals as goal

pub returns-in_default-clause-none : goal.returns-in_default-clause-none
returns-in_default-clause-none c = pieces_none _ (sym c.piece_start.ensures ∙ c.in_default.is)

pub returns-clause-found : goal.returns-clause-found
returns-clause-found c =
    pieces_some _ _ _ c.in-Some.start _ (sym c.in-Some.ensures) (grind (arith, common_steps))
    (rw (← c.piece_end.ensures) c.unwrap_or-end.ensures) (grind (arith, common_steps))
