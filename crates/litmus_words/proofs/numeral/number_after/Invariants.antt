use Rattle.std.proofs.Common.{◌≡◌, take}
use Rattle.litmus_words.specs.Numbers.{number_after}
use Rattle.litmus_words.proofs.numeral.number_after.Given as goal

abbrev pub invariant-loop-digit : goal.invariant-loop-digit
invariant-loop-digit l = l.number ≡ number_after l.base 0 (take l.digit-index l.digits)
