-- What a trace of version 2 or 3 says of its core. (This project's own choice.)

use Rattle.std.specs.Prelude.{◌≡◌, ℕ, true, List, length}
use Rattle.numbers.specs.Sizes.{are_core_sizes}
use Rattle.events.specs.{declared.role.Role.Role}

-- Its harts, the registers beside those that they begin with, the entries of its
-- queue, and the role of each actor.
pub record CoreSizes : Type 0 where
  pub harts : ℕ
  pub extra : ℕ
  pub queue : ℕ
  pub roles : List Role

-- a core may have them
abbrev pub AreCoreSizes : CoreSizes → Type 0
AreCoreSizes sizes = are_core_sizes sizes.harts sizes.extra sizes.queue (length sizes.roles) ≡ true
