use Rattle.std.proofs.Common.{List, map, sym, ◌∙◌}
use Rattle.std.proofs.lemmas.Result.{IfOk-weaker}
use Rattle.clap.specs.Words.{Text}
use Rattle.sim_inputs.proofs.Several.{asked_tests}
use Rattle.sim_inputs.proofs.several_tests.tests_asked.Goals as goal

pub returns-in-Some : goal.returns-in-Some
returns-in-Some c =
    let words : List Text = map (λ word. word.now) c.args.words.now in
    IfOk-weaker c.names_found.result _ _
    (λ tests same. same ∙ asked_tests words _ c.in-Ok.matches _ c.in_ok-command.ensures c.in-Ok.ensures.matches
    (sym c.in-Some.ensures.rows)) c.names_found.ensures
