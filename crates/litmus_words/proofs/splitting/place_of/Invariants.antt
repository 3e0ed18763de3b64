use Rattle.std.proofs.Common.{take}
use Rattle.litmus_words.specs.Cuts.{LacksMark}
use Rattle.litmus_words.proofs.splitting.place_of.Given as goal

-- the mark isn't among the words so far
abbrev pub invariant-loop-place : goal.invariant-loop-place
invariant-loop-place l = LacksMark l.mark (take l.place l.words)
