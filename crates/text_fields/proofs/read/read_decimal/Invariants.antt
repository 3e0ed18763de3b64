use Rattle.std.proofs.Common.{◌+◌, ◌*◌, ◌≤◌, take}
use Rattle.text_fields.specs.{Counting.Counts}
use Rattle.text_fields.proofs.read.read_decimal.Given as goal

-- the digits so far are counted
abbrev pub invariant-loop-digit : goal.invariant-loop-digit
invariant-loop-digit l = record {
  small : l.value ≤ l.max * 10 + 9;
  here : Counts l.max l.value (take l.digit-index l.text);
}
