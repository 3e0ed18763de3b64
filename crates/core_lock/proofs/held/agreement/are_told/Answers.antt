use Rattle.std.proofs.Common.{◌≡◌, ◌<◌, ◌∙◌, refl, sym, arith}
use Rattle.std.proofs.{lemmas.Bool.false≢true, lemmas.Option.slice_get_within, lemmas.Option.slice_get-get_or}
use Rattle.core_lock.specs.Passes.{IsTold}
use Rattle.core_lock.proofs.{Laid.places_more, Tallying.lies_told, Tallying.counted_so, Tallying.made_for}
use Rattle.core_lock.proofs.{held.agreement.are_told.Goals.then-from-place-via-then-from-place}
use Rattle.core_lock.proofs.{held.agreement.are_told.Goals.then-from-place-via-else-from-place+then-not-has_counted}
use Rattle.core_lock.proofs.held.agreement.are_told.Goals as goal

pub loop-place-preserved : goal.loop-place-preserved
loop-place-preserved g c =
    let past = c.args.core.now.past in
    let k = c.loop-place.place in
    let told = c.tally_at-tally.ensures past
    (made_for past c.history-history.result.now.items c.made_in-made.result c.history-history.ensures.events c.made_in-made.ensures) in
    places_more (λ k p. (p.actor ≡ k) × IsTold past p.actor p.count p.last) c.args.passes.now k
    c.index-passes-place.result
    (lies_told past k _ _ _ _ (sym c.from.ensures ∙ c.if-from-place.false) told
    (c.has_counted.ensures.0 c.if-not-has_counted.false))
    c.loop-place.invariant

pub returns-then-from-place : goal.returns-then-from-place
returns-then-from-place g c = (
  λ yes. absurd (false≢true yes),
  λ all.
      let past = c.args.core.now.past in
      let k = c.loop-place.place in
      let here =
      all k _
      (slice_get-get_or c.args.passes.now k c.index-passes-place.result
      (omega (arith, c.type_inv.passes, c.loop-place-test.true))) in
      elim c.then-from-place.branch [
        | then-from-place-via-then-from-place w ↦ absurd (w.if-from-place.true (c.from.ensures ∙ here.0))
        | then-from-place-via-else-from-place+then-not-has_counted w ↦
            let told = c.tally_at-tally.ensures past
            (made_for past c.history-history.result.now.items c.made_in-made.result c.history-history.ensures.events c.made_in-made.ensures) in
            sym w.if-not-has_counted.true ∙ w.has_counted.ensures.1 (counted_so past k _ _ _ _ told here)
      ],
)

pub returns : goal.returns
returns g c = (
  λ _ k p at.
      let inside = slice_get_within c.args.passes.now k p at in
      let under : k < c.loop-place.place = omega (arith, inside, c.type_inv.passes, c.loop-place-test.false) in
      c.loop-place.invariant k under p at,
  λ _. refl,
)
