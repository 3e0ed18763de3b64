use Rattle.std.specs.Prelude.{◌≡◌, take}
use Rattle.scripts.specs.Lines.{words_in}
use Rattle.prompts.specs.Kept.{kept_in}
use Rattle.prompts.proofs.simulation.words_of.Given as goal

-- the words so far are those of the lines so far
abbrev pub invariant-loop-line : goal.invariant-loop-line
invariant-loop-line l = l.words.items ≡ words_in (kept_in (take l.line-index l.lines))
