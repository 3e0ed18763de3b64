use Rattle.std.proofs.Common.{◌≡◌, ◌≤◌, take}
use Rattle.story_pictures.specs.Foot.{caret_behind}
use Rattle.story_pictures.proofs.foot.caret_behind.Given as goal

-- the next byte stands here
abbrev pub invariant-loop-byte : goal.invariant-loop-byte
invariant-loop-byte l = (l.caret ≡ caret_behind (take l.byte-index l.text))
    × (l.caret.column ≤ l.byte-index) × (l.caret.lines ≤ l.byte-index)
