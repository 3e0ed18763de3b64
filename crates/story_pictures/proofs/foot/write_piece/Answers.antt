use Rattle.std.proofs.Common.{rules, subst, sym}
use Rattle.std.proofs.lemmas.Result.{on_ok_weaker}
use Rattle.std.specs.Io.KnownBytes.{Appends}
use Rattle.text_fields.proofs.Appending.{appends_more}
use Rattle.story_pictures.proofs.Lines.{full_piece}
use Rattle.story_pictures.proofs.foot.write_piece.Goals as goal

pub returns-then-fills_line : goal.returns-then-fills_line
returns-then-fills_line g c =
    on_ok_weaker c.write_character.result
    (λ last. subst (Appends _ _)
    (sym (full_piece c.args.text.now c.args.index c.args.byte c.args.caret (search rules) (search rules)))
    (appends_more _ _ _ _ _ c.in_ok-write_next_line.ensures last))
    c.write_character.ensures
