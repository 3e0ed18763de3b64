use Rattle.std.proofs.Common.{ℕ, ◌-◌, ◌≤◌, length}
use Rattle.litmus_words.specs.Gaps.{IsGap, IsGapEnd}
use Rattle.litmus_words.proofs.lexer.skip_blanks.Given as goal

abbrev pub invariant-loop-at : goal.invariant-loop-at
invariant-loop-at l = record {
  on : l.from ≤ l.at;
  inside : l.at ≤ length l.text;
  gap : (to : ℕ) → IsGap l.text l.at to → IsGap l.text l.from to;
  only : (to : ℕ) → IsGap l.text l.from to → IsGapEnd l.text to → IsGap l.text l.at to;
}

abbrev pub decreases-loop-at : goal.decreases-loop-at
decreases-loop-at l = length l.text - l.at
