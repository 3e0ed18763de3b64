use Rattle.std.proofs.Common.{◌≡◌, length}
use Rattle.litmus_reading.specs.Declarations.{declaration_of}
use Rattle.litmus_reading.proofs.declarations.declaration_of.Given as goal

-- no entry so far declares the name
abbrev pub invariant-loop-rest : goal.invariant-loop-rest
invariant-loop-rest l = declaration_of l.text l.words l.name ≡ declaration_of l.text l.rest l.name

abbrev pub decreases-loop-rest : goal.decreases-loop-rest
decreases-loop-rest l = length l.rest
