use Rattle.std.proofs.Common.{◌≡◌, ◌+◌, ◌*◌, ◌^◌, ◌≤◌, drop}
use Rattle.text_fields.proofs.DigitTable.{weighed}
use Rattle.text_fields.proofs.read.hex_number.Given as goal

-- the bytes to come, after the sum so far, make the whole sum, which leaves room for more
abbrev pub invariant-loop-digit : goal.invariant-loop-digit
invariant-loop-digit l = record {
  small : 15 * l.sum + 4294967296 ≤ 4294967296 * 16 ^ l.digit-index;
  whole : weighed l.sum (drop l.digit-index l.digits) ≡ weighed 0 l.digits;
}
