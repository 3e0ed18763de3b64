use Rattle.std.proofs.Common.{◌≡◌, true, take, All}
use Rattle.litmus_words.specs.Numbers.{is_digit}
use Rattle.litmus_words.proofs.numeral.are_digits.Given as goal

abbrev pub invariant-loop-digit : goal.invariant-loop-digit
invariant-loop-digit l = All (λ digit. is_digit l.base digit ≡ true) (take l.digit-index l.digits)
