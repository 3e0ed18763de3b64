use Rattle.std.proofs.Common.{ap, ◌∙◌}
use Rattle.std.proofs.lemmas.Bool.{lt-ltb, le-ltb}
use Rattle.sim_inputs.specs.SeveralTests.{are_several}
use Rattle.sim_inputs.proofs.Several.{several_names, several_listed, some_found, none_found}
use Rattle.sim_inputs.proofs.several_tests.are_several.Goals as goal

pub returns-then-names-gt1 : goal.returns-then-names-gt1
returns-then-names-gt1 c =
    several_names c.in-Some.names.now _ (some_found c.args.found.now c.in-Some.names c.in-Some.ensures) (lt-ltb 1 _ c.if-names-gt1.true)

pub returns-else-names-gt1 : goal.returns-else-names-gt1
returns-else-names-gt1 c = c.any_list.ensures
    ∙ several_listed c.in-Some.names.now _ (some_found c.args.found.now c.in-Some.names c.in-Some.ensures) (le-ltb 1 _ c.if-names-gt1.false)

pub returns-in-None : goal.returns-in-None
returns-in-None c = ap are_several (none_found c.args.found.now c.in-None.ensures)
