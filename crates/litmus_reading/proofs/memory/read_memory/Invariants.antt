use Rattle.std.proofs.Common.{◌≡◌, ◌++◌, drop}
use Rattle.litmus_reading.specs.Memory.{memory_of}
use Rattle.litmus_reading.proofs.memory.read_memory.Given as goal

-- those so far, and those of the rest, are all
abbrev pub invariant-loop-name : goal.invariant-loop-name
invariant-loop-name l = l.words.items ++ memory_of l.entries (drop l.name-index l.names) ≡ memory_of l.entries l.names
