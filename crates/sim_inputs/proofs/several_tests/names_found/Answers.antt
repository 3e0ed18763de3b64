use Rattle.std.proofs.Common.{ap, ◌∙◌, map}
use Rattle.std.proofs.lemmas.Result.{IfOk-weaker}
use Rattle.sim_inputs.proofs.Several.{some_found, none_found}
use Rattle.sim_inputs.proofs.several_tests.names_found.Goals as goal

pub returns-in-Some : goal.returns-in-Some
returns-in-Some c = IfOk-weaker c.from_slice.result _ _
    (λ tests same. ap (map (λ test. test.now)) same ∙ some_found c.args.found.now c.in-Some.names c.in-Some.ensures)
    c.from_slice.ensures.items

pub returns-in-None : goal.returns-in-None
returns-in-None c = ap (map (λ test. test.now)) c.new.ensures.items ∙ none_found c.args.found.now c.in-None.ensures
