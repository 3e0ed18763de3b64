use Rattle.std.proofs.Common.{ap, true}
use Rattle.clap.specs.Words.{App}
use Rattle.sim_inputs.proofs.description.without_subcommands.Goals as goal

pub returns : goal.returns
returns c =
    rw (c.subcommand_required.ensures, c.after_help.ensures, c.version.ensures, c.about.ensures)
    (ap (λ (a : App). record a { top = record a.top { subcommand_required = true; has_version = true } }) c.new.ensures.app)
