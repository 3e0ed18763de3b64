use Rattle.std.proofs.Common.{◌≡◌, ◌+◌, ◌++◌}
use Rattle.arrayvec.specs.ArrayString.{array_string_len}
use Rattle.text_fields.specs.Spelling.{hex}
use Rattle.text_fields.proofs.print.push_digits.Given as goal

-- the digits so far and those of the lower places are all the digits
abbrev pub invariant-loop-place : goal.invariant-loop-place
invariant-loop-place g l = record {
  spelled : l.text.bytes ++ hex l.place l.value ≡ l.initial.text.bytes ++ hex l.count l.value;
  length : array_string_len l.text + l.place ≡ array_string_len l.initial.text + l.count;
}
