use Rattle.std.proofs.Common.{◌≡◌, drop}
use Rattle.litmus_reading.specs.Names.{declared_of}
use Rattle.litmus_reading.proofs.locations.declared_of.Given as goal

-- none so far
abbrev pub invariant-loop-name : goal.invariant-loop-name
invariant-loop-name l = declared_of l.text l.names l.word ≡ declared_of l.text (drop l.name-index l.names) l.word
