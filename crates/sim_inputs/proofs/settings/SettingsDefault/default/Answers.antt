use Rattle.std.proofs.Common.{rules}
use Rattle.sim_inputs.proofs.settings.SettingsDefault.default.Goals as goal

pub returns : goal.returns
returns c = search rules
