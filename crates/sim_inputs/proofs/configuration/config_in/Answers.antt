use Rattle.std.proofs.Common.{rules}
use Rattle.sim_inputs.proofs.configuration.config_in.Goals as goal

pub returns-in_err-queue-clause-none : goal.returns-in_err-queue-clause-none
returns-in_err-queue-clause-none c = search rules
