use Rattle.std.proofs.Common.{◌≡◌, take, reverse}
use Rattle.story_pictures.specs.Notes.{HasNoted, last_fault}
use Rattle.story_pictures.proofs.notes.last_fault.Given as goal

-- the last one of the rows so far
abbrev pub invariant-loop-index : goal.invariant-loop-index
invariant-loop-index l = HasNoted (reverse (take l.index l.rows)) l.noting
    × (l.last ≡ last_fault (reverse (take l.index l.rows)))
