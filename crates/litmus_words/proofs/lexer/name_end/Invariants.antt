use Rattle.std.proofs.Common.{◌≡◌, ℕ, ◌-◌, ◌<◌, ◌≤◌, true, length}
use Rattle.std.specs.Prelude.{slice_index}
use Rattle.litmus_words.specs.Words.{is_of_name}
use Rattle.litmus_words.proofs.lexer.name_end.Given as goal

abbrev pub invariant-loop-at : goal.invariant-loop-at
invariant-loop-at l = record {
  on : l.from ≤ l.at;
  inside : l.at ≤ length l.text;
  each : (at : ℕ) → l.from ≤ at → at < l.at → is_of_name (slice_index l.text at) ≡ true;
}

abbrev pub decreases-loop-at : goal.decreases-loop-at
decreases-loop-at l = length l.text - l.at
