use Rattle.std.proofs.Common.{◌≡◌, false, take}
use Rattle.std.specs.List.{list_any}
use Rattle.sim_inputs.specs.Files.{is_standard_input}
use Rattle.sim_inputs.proofs.several_tests.any_input.Given as goal

-- none so far
abbrev pub invariant-loop-name : goal.invariant-loop-name
invariant-loop-name l = list_any (λ name. is_standard_input name.now) (take l.name-index l.names) ≡ false
