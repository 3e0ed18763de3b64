use Rattle.std.proofs.Common.{◌∙◌}
use Rattle.stress_runs.proofs.Watched.{register_is}
use Rattle.stress_runs.proofs.end.register_in.Goals as goal

pub returns : goal.returns
returns c =
    c.unwrap_or.ensures
    ∙ register_is c.args.core.now.setup c.args.core.now.past c.args.watched c.register.result c.register.ensures.value
    c.requires
