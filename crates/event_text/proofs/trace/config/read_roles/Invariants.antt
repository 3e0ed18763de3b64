use Rattle.std.proofs.Common.{◌≡◌, ◌-◌, length}
use Rattle.event_text.specs.Heads.{roles_of}
use Rattle.event_text.proofs.RoleFields.{behind_roles}
use Rattle.event_text.proofs.trace.config.read_roles.Given as goal

-- what is left to read is read behind the roles that were read
abbrev pub invariant-loop : goal.invariant-loop
invariant-loop l = record {
  count : length l.roles.items ≡ l.counter;
  read : roles_of l.fn.count l.fn.fields ≡ behind_roles l.roles.items (roles_of (l.fn.count - l.counter) l.rest);
}
