use Rattle.std.specs.Prelude.{◌≡◌, ◌<◌, true, length, Some, None, slice_index_or}
use Rattle.std.proofs.Common.{◌∙◌, sym, ap, subst, arith}
use Rattle.std.proofs.lemmas.Bool.Decides.{nat_tests}
use Rattle.free_list.specs.Flags.{holds}
use Rattle.core_steps.proofs.Steps.Rename.Counts.{are_accesses}
use Rattle.core_steps.proofs.Steps.Rename.Next.{can_rename, must_enter, needs_register, same_first}
use Rattle.core_parts.specs.declared.slot.Slot.{Slot}
use Rattle.core_steps.proofs.rename.next_to_rename.Goals as goal

pub returns-in_err-slot-clause-none : goal.returns-in_err-slot-clause-none
returns-in_err-slot-clause-none c =
    rw c.from_residual-in_err-slot.ensures
    (λ p agrees inside n taken can.
    let at : c.in_ok-get.field-0.now ≡ slice_index_or c.args.parts.now.harts.items c.args.hart c.in_ok-get.field-0.now =
    rw (sym c.deref.ensures.value, sym c.from.ensures) c.in_ok-get.ensures.lookup.1 in
    let are = are_accesses p c.args.parts.now c.args.hart c.in_ok-get.field-0.now agrees inside at in
    let must = must_enter p c.args.parts.now c.args.hart n c.in_ok-get.field-0.now taken agrees inside at can in
    c.in_err-slot.ensures.none are must.slot must.enters)

pub returns-then-not-writes_register-clause-some : goal.returns-then-not-writes_register-clause-some
returns-then-not-writes_register-clause-some c = λ p agrees.
    let at : c.in_ok-get.field-0.now ≡ slice_index_or c.args.parts.now.harts.items c.args.hart c.in_ok-get.field-0.now =
    rw (sym c.deref.ensures.value, sym c.from.ensures) c.in_ok-get.ensures.lookup.1 in
    let inside : c.args.hart < length c.args.parts.now.harts.items = omega (arith, c.in_ok-get.ensures.lookup.3.0) in
    let are = are_accesses p c.args.parts.now c.args.hart c.in_ok-get.field-0.now agrees inside at in
    can_rename p c.args.parts.now c.args.hart c.in_ok-get.field-0.now c.in_ok-slot.slot None agrees
    inside at (c.in_ok-slot.ensures.some are) (grind (arith, nat_tests))
    (sym c.if-not-writes_register.true ∙ c.writes_register.ensures) (λ y same. absurd cc)

pub returns-in_err-register-clause-none : goal.returns-in_err-register-clause-none
returns-in_err-register-clause-none c =
    rw c.from_residual-in_err-register.ensures
    (λ p agrees inside n taken can.
    let at : c.in_ok-get.field-0.now ≡ slice_index_or c.args.parts.now.harts.items c.args.hart c.in_ok-get.field-0.now =
    rw (sym c.deref.ensures.value, sym c.from.ensures) c.in_ok-get.ensures.lookup.1 in
    let are = are_accesses p c.args.parts.now c.args.hart c.in_ok-get.field-0.now agrees inside at in
    let must = must_enter p c.args.parts.now c.args.hart n c.in_ok-get.field-0.now taken agrees inside at can in
    let same : must.slot ≡ c.in_ok-slot.slot =
    same_first must.slot c.in_ok-slot.slot c.in_ok-get.field-0.now must.enters (c.in_ok-slot.ensures.some are) in
    needs_register p c.args.parts.now n c.in_ok-slot.slot.op taken agrees (must.op ∙ ap (λ (s : Slot). s.op) same)
    (sym c.writes_register.ensures ∙ c.if-not-writes_register.false) c.in_err-register.ensures.none can.fits can.free)

pub returns-clause-some : goal.returns-clause-some
returns-clause-some c = λ p agrees.
    let at : c.in_ok-get.field-0.now ≡ slice_index_or c.args.parts.now.harts.items c.args.hart c.in_ok-get.field-0.now =
    rw (sym c.deref.ensures.value, sym c.from.ensures) c.in_ok-get.ensures.lookup.1 in
    let inside : c.args.hart < length c.args.parts.now.harts.items = omega (arith, c.in_ok-get.ensures.lookup.3.0) in
    let are = are_accesses p c.args.parts.now c.args.hart c.in_ok-get.field-0.now agrees inside at in
    can_rename p c.args.parts.now c.args.hart c.in_ok-get.field-0.now c.in_ok-slot.slot (Some c.in_ok-register.register)
    agrees inside at (c.in_ok-slot.ensures.some are) (grind (arith, nat_tests))
    (sym c.if-not-writes_register.false ∙ c.writes_register.ensures)
    (λ y same. let it : c.in_ok-register.register ≡ y = cc in
    subst (λ z. holds c.args.parts.now.free z ≡ true) it c.in_ok-register.ensures.some.is_free)
