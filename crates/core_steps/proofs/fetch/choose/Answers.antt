-- Both passes together find the hart that is next in turn.
use Rattle.std.proofs.Common.{◌≡◌, ◌∙◌, None, length, subst, ap, arith}
use Rattle.core_steps.specs.Fetch.{better_of, from_to}
use Rattle.core_steps.proofs.{Steps.Fetch.Choice.IsNext, Steps.Fetch.Choice.chosen_none, Steps.Fetch.Choice.chosen_some}
use Rattle.core_steps.proofs.{fetch.choose.Goals.in-Some, fetch.choose.Goals.in-None}
use Rattle.core_steps.proofs.fetch.choose.Goals as goal

pub returns-clause-value : goal.returns-clause-value
returns-clause-value c =
    let harts = c.args.harts.now in
    let next = c.match-last.next in
    let passes = c.better.ensures.value ∙ ap (λ b. better_of harts b (from_to 0 next)) c.better-best.ensures.value in
    elim c.match-last.branch [
      | in-Some w ↦
          let smaller = w.min-next.ensures in
          let last = w.from.ensures in
          let end = w.next-is in
          let is : IsNext (length harts) w.in-Some.last next =
          record { inside = omega arith; upto = omega arith; least = λ under. omega arith } in
          rw w.in-Some.is (passes ∙ chosen_some harts w.in-Some.last next is)
      | in-None w ↦
          rw w.in-None.is
          (subst
          (λ n. c.better.result ≡ better_of harts (better_of harts None (from_to n (length harts))) (from_to 0 n))
          w.next-is passes
          ∙ chosen_none harts)
    ]
