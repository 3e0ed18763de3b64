use Rattle.std.proofs.Common.{◌≡◌, ◌∙◌, ◌<◌, None, length, get_or, sym, ap, subst, arith}
use Rattle.core_state.proofs.Views.Register.{committed_is}
use Rattle.core_state.proofs.state.State.register.Goals as goal

pub returns-in-1-to-31 : goal.returns-in-1-to-31
returns-in-1-to-31 c =
    let i = c.self.inside in
    let x = c.in_ok-state.state.now in
    let found = c.in_ok-state.ensures.lookup in
    let low : 0 < c.args.register = omega arith in
    let high : c.args.register < 32 = omega arith in
    let inside : c.args.hart < length i.parts.harts.items =
    subst (λ n. n < length i.parts.harts.items) c.from.ensures
    (subst (λ hs. c.from.result < length hs) c.deref.ensures.value found.3.0) in
    let at : x ≡ get_or i.parts.harts.items c.args.hart x =
    subst (λ n. x ≡ get_or i.parts.harts.items n x) c.from.ensures
    (subst (λ hs. x ≡ get_or hs c.from.result x) c.deref.ensures.value found.1) in
    c.value_of.ensures ∙ ap (λ r. get_or i.parts.values r None) c.committed.ensures
    ∙ sym (committed_is i c.self.invariant c.args.self.now c.self.view_is c.args.hart inside x c.args.register
    at low high)
