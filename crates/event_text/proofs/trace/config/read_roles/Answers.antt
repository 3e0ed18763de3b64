use Rattle.std.proofs.Common.{◌≡◌, ◌+◌, ◌-◌, suc, sym, ◌∙◌, ap, arith}
use Rattle.std.proofs.lemmas.Result.{err_from_is_err_and}
use Rattle.event_text.specs.Heads.{role_field, roles_of}
use Rattle.event_text.proofs.RoleFields.{behind_roles, role_more, role_none, role_refused}
use Rattle.event_text.proofs.trace.config.read_roles.Goals as goal

pub returns-in_err-read_role-clause-refused : goal.returns-in_err-read_role-clause-refused
returns-in_err-read_role-clause-refused c =
    let roles = c.loop.roles.items in
    let fields = c.loop.rest.now in
    let n = c.args.count - c.loop.counter - 1 in
    let left : c.args.count - c.loop.counter ≡ suc n = omega (arith, c.loop-test.true) in
    let refused = ap role_field (sym c.split_field.ensures.first) ∙ sym c.in_err-read_role.ensures in
    let p = err_from_is_err_and c.from_residual.result c.from_residual.ensures.1 in
    rw (p.1, p.2)
    (c.loop.invariant.read ∙ ap (λ many. behind_roles roles (roles_of many fields)) left
    ∙ role_refused n fields roles _ refused)

pub loop-preserved : goal.loop-preserved
loop-preserved c =
    let roles = c.loop.roles.items in
    let fields = c.loop.rest.now in
    let role = c.in_ok-read_role.field-0 in
    let n = c.args.count - (c.loop.counter + 1) in
    let left : c.args.count - c.loop.counter ≡ suc n = omega (arith, c.loop-test.true) in
    let read = ap role_field (sym c.split_field.ensures.first) ∙ sym c.in_ok-read_role.ensures in
    record {
      count = omega (arith, c.push.ensures.len, c.loop.invariant.count);
      read = rw (c.push.ensures.items, c.split_field.ensures.others)
          (c.loop.invariant.read ∙ ap (λ many. behind_roles roles (roles_of many fields)) left
          ∙ role_more n fields roles role read);
    }

pub returns-clause-read : goal.returns-clause-read
returns-clause-read c =
    let roles = c.loop.roles.items in
    let fields = c.loop.rest.now in
    let left : c.args.count - c.loop.counter ≡ 0 = omega (arith, c.loop-test.false) in
    c.loop.invariant.read ∙ ap (λ many. behind_roles roles (roles_of many fields)) left
    ∙ role_none fields roles
