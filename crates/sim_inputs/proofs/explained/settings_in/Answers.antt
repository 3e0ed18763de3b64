use Rattle.sim_inputs.proofs.Faults.{no_settings}
use Rattle.sim_inputs.proofs.explained.settings_in.Goals as goal

pub returns-in-Some-clause-none : goal.returns-in-Some-clause-none
returns-in-Some-clause-none c =
    no_settings _ _ c.unknown_fault.result (c.in-Some.ensures.unknown) c.unknown_fault.ensures
