-- What a core is made from, and the numbers that everything starts with.
use Rattle.std.specs.Prelude.{ℕ, ◌+◌, Bool, ◌==◌, ◌&&◌, nat_le, if◌then◌else◌, List, length}
use Rattle.std.specs.Prelude.{Option, Some, None}
use Rattle.numbers.specs.Sizes.{are_core_sizes, most_events}
use Rattle.numbers.specs.Layout.{first_extra}
use Rattle.elf_image.specs.Image.{ProgramImage}
use Rattle.events.specs.declared.role.Role.{Role}
pub use Rattle.events.specs.Roles.{unit_of_role}

-- A program image and the sizes of a core: its harts, the physical registers beyond 31 a hart, the
-- entries of the issue queue, and the role of each actor.
pub record Setup : Type 0 where
  pub image : ProgramImage
  pub harts : ℕ
  pub extra : ℕ
  pub queue : ℕ
  pub roles : List Role

-- How many physical registers there are.
abbrev pub registers_of : Setup → ℕ
registers_of setup = first_extra setup.harts + setup.extra

-- A core is made of these sizes and this limit on its history.
abbrev pub is_accepted : Setup → ℕ → Bool
is_accepted setup limit =
    are_core_sizes setup.harts setup.extra setup.queue (length setup.roles)
    && nat_le limit most_events

-- What register r, 1 to 31, of hart h holds at the start: x10 the hart's number, x11 how many harts
-- there are, all others 0.
abbrev pub first_number : ℕ → ℕ → ℕ → ℕ
first_number harts h r = if r == 10 then h else (if r == 11 then harts else 0)
