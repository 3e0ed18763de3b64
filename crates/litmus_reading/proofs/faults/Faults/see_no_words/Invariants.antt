use Rattle.std.proofs.Common.{◌≤◌, length}
use Rattle.litmus_reading.proofs.faults.Faults.see_no_words.Given as goal

abbrev pub invariant-loop-turn : goal.invariant-loop-turn
invariant-loop-turn l = l.from ≤ length l.text
