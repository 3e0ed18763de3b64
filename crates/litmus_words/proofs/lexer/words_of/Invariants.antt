use Rattle.std.proofs.Common.{◌-◌, ◌≤◌, List, ◌++◌, length, All}
use Rattle.litmus_words.specs.declared.word.Word.{Word}
use Rattle.litmus_words.specs.Gaps.{IsGapEnd, StandFrom}
use Rattle.litmus_words.specs.Words.{IsWordOf}
use Rattle.litmus_words.proofs.Standing.{IsLeft}
use Rattle.litmus_words.proofs.lexer.words_of.Given as goal

-- what stands from here on stands, behind the words so far, from the beginning on; and what stands from the beginning on
-- begins with these
abbrev pub invariant-loop-at : goal.invariant-loop-at
invariant-loop-at l = record {
  inside : l.at ≤ length l.text;
  words : All (IsWordOf l.text) l.words.items;
  stand : (more : List Word) → StandFrom l.text l.at more → StandFrom l.text l.from (l.words.items ++ more);
  over : IsGapEnd l.text l.at;
  only : (all : List Word) → StandFrom l.text l.from all → IsLeft l.text l.at l.words.items all;
}

abbrev pub decreases-loop-at : goal.decreases-loop-at
decreases-loop-at l = length l.text - l.at
