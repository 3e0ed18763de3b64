use Rattle.std.proofs.Common.{◌≡◌, ◌≤◌, take}
use Rattle.std.specs.Io.KnownBytes.{Appends}
use Rattle.text_fields.specs.Each.{each_from}
use Rattle.story_pictures.specs.Foot.{caret_behind, piece_at}
use Rattle.story_pictures.proofs.foot.write_pieces.Given as goal

-- the bytes so far are written, and the next one stands here
abbrev pub invariant-loop-index : goal.invariant-loop-index
invariant-loop-index g l =
    Appends (g.W.Write.contents l.fn.out) (g.W.Write.contents l.out)
    (each_from (piece_at l.text) 0 (take l.index l.text))
    × (l.caret ≡ caret_behind (take l.index l.text)) × (l.caret.column ≤ l.index) × (l.caret.lines ≤ l.index)
