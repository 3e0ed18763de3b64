-- What is refused of the configuration is so of each line, and what is of the summary behind each configuration.
use Rattle.command_parts.specs.Inputs.{as_read}
use Rattle.commands.proofs.OfSuiteLine.{settled}
use Rattle.commands.proofs.OfSuites.{known_suite}
use Rattle.commands.proofs.suites.perform_suite_line.Goals as goal

pub returns-in-Err-clause-refused : goal.returns-in-Err-clause-refused
returns-in-Err-clause-refused g c =
    c.in-Err.ensures.refused c.args.litmus.now (as_read c.args.inputs.now.second)

pub returns-in-Err-telling_of-clause-refused : goal.returns-in-Err-telling_of-clause-refused
returns-in-Err-telling_of-clause-refused g c =
    let config = as_read c.args.inputs.now.config in
    c.in-Err-telling_of.ensures.refused config
    (settled config c.in-Ok.settings (λ settings. Unit {0}) c.in-Ok.ensures.settings tt)

pub returns-in-Ok-perform_suite-clause-known : goal.returns-in-Ok-perform_suite-clause-known
returns-in-Ok-perform_suite-clause-known g c =
    known_suite g.T.TestSource.gives g.T.TestSource.hears c.in-Ok.settings c.args.litmus.now _ _ _ _ _ _
    c.in-Ok-perform_suite.ensures.comes
