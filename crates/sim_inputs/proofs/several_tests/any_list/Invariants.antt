use Rattle.std.proofs.Common.{◌≡◌, false, take}
use Rattle.std.specs.List.{list_any}
use Rattle.sim_inputs.specs.SeveralTests.{names_list}
use Rattle.sim_inputs.proofs.several_tests.any_list.Given as goal

-- none so far
abbrev pub invariant-loop-name : goal.invariant-loop-name
invariant-loop-name l = list_any (λ name. names_list name.now) (take l.name-index l.names) ≡ false
