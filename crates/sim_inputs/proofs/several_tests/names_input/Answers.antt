use Rattle.std.proofs.Common.{ap, ◌∙◌}
use Rattle.sim_inputs.specs.SeveralTests.{names_input}
use Rattle.sim_inputs.proofs.Several.{inputs, some_found, none_found}
use Rattle.sim_inputs.proofs.several_tests.names_input.Goals as goal

pub returns-in-Some : goal.returns-in-Some
returns-in-Some c =
    c.any_input.ensures ∙ inputs c.in-Some.names.now _ (some_found c.args.found.now c.in-Some.names c.in-Some.ensures)

pub returns-in-None : goal.returns-in-None
returns-in-None c = ap names_input (none_found c.args.found.now c.in-None.ensures)
