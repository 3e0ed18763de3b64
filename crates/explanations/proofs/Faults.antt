-- A fault of which something is said is one of no configuration.
use Rattle.std.specs.Prelude.{List, ℕ}
use Rattle.sim_inputs.specs.{declared.settings.Settings.Settings, Configuration.IsConfiguration}
use Rattle.sim_inputs.specs.declared.explained.fault.ConfigFault.{ConfigFault}
use Rattle.sim_inputs.specs.declared.explained.fault.ConfigFault.TheVariants as faults
use Rattle.sim_inputs.specs.Explained.{IsNoConfiguration}
use Rattle.explanations.specs.ConfigRefusal.{IsTold}

pub refused : (text : List ℕ) (fault : ConfigFault) → IsNoConfiguration text fault → IsTold fault
    → (settings : Settings) → IsConfiguration text settings → ⊥
refused text (faults.NoDocument place message) none told = none
refused text (faults.UnknownKey key) none told = none
refused text (faults.Number key) none told = none
refused text (faults.Actors why) none told = none
refused text faults.Memory none told = absurd told
