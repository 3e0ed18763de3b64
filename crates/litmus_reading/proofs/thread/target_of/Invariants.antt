use Rattle.std.proofs.Common.{◌≡◌, drop}
use Rattle.litmus_reading.specs.Threads.{target_of}
use Rattle.litmus_reading.proofs.thread.target_of.Given as goal

-- none so far
abbrev pub invariant-loop-label : goal.invariant-loop-label
invariant-loop-label l = target_of l.text l.labels l.word ≡ target_of l.text (drop l.label-index l.labels) l.word
