-- What a run of the plain machine leaves.
use Rattle.std.specs.Prelude.{List}
use Rattle.events.specs.declared.effect.Record.{Record}
use Rattle.smt_model.specs.declared.config.Status.{Status}
use Rattle.sc_machine.specs.Machine.{Machine}

-- The records of its steps, the oldest first; how each hart stands; and the machine, with the
-- output.
pub record Left : Type 0 where
  pub records : List Record
  pub statuses : List Status
  pub machine : Machine
