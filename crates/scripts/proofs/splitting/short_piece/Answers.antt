use Rattle.std.proofs.Common.{arith, sym, ◌∙◌}
use Rattle.scripts.proofs.Pieces.{pieces_short}
use Rattle.scripts.proofs.splitting.short_piece.Goals as goal

pub returns-clause-found : goal.returns-clause-found
returns-clause-found c =
    pieces_short c.args.text.now (omega (arith, c.if-text-lt2.false))
    (sym c.is_separator.ensures ∙ c.if-is_separator.false)
    (sym c.is_separator-2.ensures ∙ c.if-not-is_separator.false)
