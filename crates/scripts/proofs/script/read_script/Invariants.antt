use Rattle.std.proofs.Common.{length}
use Rattle.scripts.proofs.Reading.{IsRead}
use Rattle.scripts.specs.Script.{SpellsWord}
use Rattle.scripts.proofs.script.read_script.Given as goal

abbrev pub invariant-loop-piece : goal.invariant-loop-piece
invariant-loop-piece l = IsRead SpellsWord l.bytes l.text l.words.items

abbrev pub decreases-loop-piece : goal.decreases-loop-piece
decreases-loop-piece l = length l.text
