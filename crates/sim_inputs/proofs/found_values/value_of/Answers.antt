use Rattle.sim_inputs.proofs.Found.{option_row}
use Rattle.sim_inputs.proofs.found_values.value_of.Goals as goal

pub returns : goal.returns
returns c = option_row c.args.found.now c.args.name.now _ c.get_str.ensures
