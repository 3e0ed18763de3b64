-- The physical registers that pass a test, as a list.
use Rattle.std.specs.Prelude.{ℕ, Bool, List, filter}
use Rattle.numbers.specs.Sizes.{most_registers}
use Rattle.smt_model.specs.Basics.{below}

-- Those of all physical registers that pass, rising: each comes once.
unfoldable pub listed : (ℕ → Bool) → List ℕ
listed test = filter test (below most_registers)
