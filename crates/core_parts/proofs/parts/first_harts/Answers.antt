-- One hart more is new.
use Rattle.std.proofs.Common.{◌≡◌, ◌∙◌, length, ap, sym, subst, arith, ◌+◌}
use Rattle.std.proofs.lemmas.List.{length_push}
use Rattle.core_parts.specs.First.{AreNew, IsNew}
use Rattle.core_parts.proofs.Agreement.Beginning.{new_more}
use Rattle.core_parts.proofs.parts.first_harts.Goals as goal

pub loop-hart-init : goal.loop-hart-init
loop-hart-init c =
    let none : length c.in_ok-each.each.items ≡ 0 = ap length c.in_ok-each.ensures.items in
    (none, λ h d inside. absurd (omega arith))

pub loop-hart-preserved : goal.loop-hart-preserved
loop-hart-preserved c =
    let more = c.in_ok-push.ensures.items in
    let count = c.loop-hart.invariant.0 in
    let hart = c.in_ok-new.field-0 in
    let new : IsNew (length c.loop-hart.each.items) c.args.entry hart =
    subst (λ n. IsNew n c.args.entry hart) (sym count) c.in_ok-new.ensures in (
      ap length more ∙ (length_push c.loop-hart.each.items hart ∙ ap (λ n. n + 1) count),
      subst (AreNew c.args.entry) (sym more)
          (new_more c.args.entry c.loop-hart.each.items hart new c.loop-hart.invariant.1),
    )
