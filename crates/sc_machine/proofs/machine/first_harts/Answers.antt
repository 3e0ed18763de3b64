use Rattle.std.proofs.Common.{◌≡◌, ◌+◌, ◌∙◌, length, ap, sym, subst, arith}
use Rattle.std.proofs.lemmas.List.{length_push}
use Rattle.sc_machine.specs.Harts.{IsFirst}
use Rattle.sc_machine.proofs.Beginning.{AreFirst, first_more}
use Rattle.sc_machine.proofs.machine.first_harts.Goals as goal

pub loop-hart-init : goal.loop-hart-init
loop-hart-init c =
    let none : length c.in_ok-each.each.items ≡ 0 = ap length c.in_ok-each.ensures.items in
    (none, λ h d inside. absurd (omega arith))

pub loop-hart-preserved : goal.loop-hart-preserved
loop-hart-preserved c =
    let xs = c.loop-hart.each.items in
    let more = c.in_ok-push.ensures.items in
    let count = c.loop-hart.invariant.0 in
    let new : IsFirst (length xs) c.args.harts c.args.entry c.new.result =
    subst (λ n. IsFirst n c.args.harts c.args.entry c.new.result) (sym count) c.new.ensures in (
      ap length more ∙ (length_push xs c.new.result ∙ ap (λ n. n + 1) count),
      subst (AreFirst c.args.harts c.args.entry) (sym more)
          (first_more c.args.harts c.args.entry xs c.new.result new c.loop-hart.invariant.1),
    )
