use Rattle.std.proofs.Common.{◌≡◌, ◌∙◌, ap, arith}
use Rattle.std.specs.Prelude.{filter}
use Rattle.smt_model.specs.{Basics.below, Plain.is_going_status}
use Rattle.rounds.proofs.Choosing.{going_more, one_more}
use Rattle.rounds.proofs.next.going_harts.Goals as goal

pub loop-hart-preserved : goal.loop-hart-preserved
loop-hart-preserved c =
    let before = c.loop-hart.going.items in
    let after = c.push_if.new.going.items in (
      one_more c.loop-hart.hart before after c.is_going.result c.loop-hart.invariant.0 c.push_if.ensures,
      λ setup s agrees.
          going_more (λ h. is_going_status (s.statuses h)) c.loop-hart.hart before after c.is_going.result
          (c.loop-hart.invariant.1 setup s agrees)
          (c.is_going.ensures ∙ ap is_going_status (c.status.ensures setup s agrees)) c.push_if.ensures,
    )

pub returns-clause-harts : goal.returns-clause-harts
returns-clause-harts c = λ setup s agrees.
    let all : c.loop-hart.hart ≡ setup.harts = omega (arith, agrees.count, c.harts-hart-end.ensures.value) in
    c.loop-hart.invariant.1 setup s agrees
    ∙ ap (λ n. filter (λ h. is_going_status (s.statuses h)) (below n)) all
