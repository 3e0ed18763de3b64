use Rattle.std.proofs.Common.{◌≡◌, true}
use Rattle.hints.specs.Lines.{are_shown}
use Rattle.hints.proofs.hint.json_of.Given as goal

-- the inside so far is shown
abbrev pub invariant-loop-byte : goal.invariant-loop-byte
invariant-loop-byte l = are_shown l.inside.items ≡ true
