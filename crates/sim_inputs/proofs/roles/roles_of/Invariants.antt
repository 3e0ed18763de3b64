use Rattle.std.proofs.Common.{◌≡◌, map, take, length}
use Rattle.toml.specs.{Data.string, View.view}
use Rattle.events.specs.Roles.{role_name}
use Rattle.sim_inputs.proofs.roles.roles_of.Given as goal

abbrev pub invariant-loop-name : goal.invariant-loop-name
invariant-loop-name l = record {
  read : map view (take l.name-index l.names.items) ≡ map (λ r. string (role_name r)) l.roles.items;
  count : length l.roles.items ≡ l.name-index;
}
