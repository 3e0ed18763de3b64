-- Which roles the actors of a run have.
use Rattle.std.specs.Prelude.{Bool, List, Contains}
use Rattle.std.specs.List.{list_any}
use Rattle.events.specs.declared.role.Role.{Role}
use Rattle.events.specs.contracts.role.RolePartialEq.TheImpl.{eq-value}

-- There is an actor of each role.
abbrev pub HaveEveryRole : List Role → Type 0
HaveEveryRole roles = (r : Role) → Contains roles r

-- The test whether there is an actor of this role.
abbrev pub has_role : List Role → Role → Bool
has_role roles r = list_any (λ there. eq-value.it there r) roles
