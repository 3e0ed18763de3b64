use Rattle.std.proofs.Common.{◌+◌, ◌*◌, ◌≤◌, take}
use Rattle.text_fields.specs.{Counting.Counts}
use Rattle.text_fields.proofs.first.first_decimal.Given as goal

-- the digits so far are counted
abbrev pub invariant-loop-place : goal.invariant-loop-place
invariant-loop-place l = record {
  small : l.value ≤ l.max * 10 + 9;
  here : Counts l.max l.value (take l.place l.text);
}
