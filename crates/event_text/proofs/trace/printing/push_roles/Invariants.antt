use Rattle.std.proofs.Common.{◌≡◌, ◌+◌, ◌*◌, ◌≤◌, ◌++◌, flat_map, take}
use Rattle.arrayvec.specs.ArrayString.{array_string_len}
use Rattle.events.specs.Roles.{role_name}
use Rattle.event_text.specs.Line.{after_space}
use Rattle.event_text.proofs.trace.printing.push_roles.Given as goal

abbrev pub invariant-loop-role : goal.invariant-loop-role
invariant-loop-role g l = record {
  spelled : l.text.bytes ≡ l.fn.text.bytes
      ++ flat_map (λ role. after_space (role_name role)) (take l.role-index l.roles);
  length : array_string_len l.text ≤ array_string_len l.fn.text + 7 * l.role-index;
}
