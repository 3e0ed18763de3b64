use Rattle.std.proofs.Common.{ℕ, ◌+◌, ◌-◌, ◌<◌, ◌≤◌, length}
use Rattle.litmus_words.specs.Comments.{IsRestOf}
use Rattle.litmus_words.proofs.lexer.comment_end.Given as goal

-- what ends the open ones ends the first, and the other way round
abbrev pub invariant-loop-at : goal.invariant-loop-at
invariant-loop-at l = record {
  on : l.from < l.at;
  inside : l.at ≤ length l.text;
  deep : l.depth ≤ l.at;
  open_ones : 1 ≤ l.depth;
  rest : (to : ℕ) → IsRestOf l.text l.depth l.at to → IsRestOf l.text 1 (l.from + 2) to;
  only : (to : ℕ) → IsRestOf l.text 1 (l.from + 2) to → IsRestOf l.text l.depth l.at to;
}

abbrev pub decreases-loop-at : goal.decreases-loop-at
decreases-loop-at l = length l.text - l.at
