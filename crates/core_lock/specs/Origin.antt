-- The core that is named where no core is.
use Rattle.std.specs.Prelude.{[]}
use Rattle.smt_model.specs.{Setup.Setup}

-- A setup of no program and no size.
abbrev pub no_setup : Setup
no_setup =
    record {
      image = record { ram = 0; entry = 0; segments = [] };
      harts = 0;
      extra = 0;
      queue = 0;
      roles = [];
    }
