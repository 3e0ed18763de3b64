use Rattle.std.proofs.Common.{◌≡◌, ◌+◌, drop, option_map, sym, subst, arith, ◌∙◌}
use Rattle.outcome_queries.specs.Outer.{outer_place, place_in}
use Rattle.outcome_queries.proofs.OuterPlaces.{found_here, not_here, nowhere}
use Rattle.outcome_queries.proofs.outer.outer_place.Goals as goal

pub returns-then-stands_at-clause-place : goal.returns-then-stands_at-clause-place
returns-then-stands_at-clause-place c =
    found_here c.loop-index.inside c.args.wanted c.loop-index.index _ c.args.text.now (omega arith)
    c.loop-index.invariant.place (sym c.stands_at.ensures ∙ c.if-stands_at.true)

pub loop-index-preserved : goal.loop-index-preserved
loop-index-preserved c =
    let text = c.args.text.now in
    record {
      place = subst (λ q. outer_place c.args.wanted text ≡ option_map (λ k. c.loop-index.index + 1 + k)
          (place_in q c.args.wanted (drop (c.loop-index.index + 1) text))) (sym c.behind-inside.ensures.said)
          (not_here c.loop-index.inside c.args.wanted c.loop-index.index _ text (omega arith)
          c.loop-index.invariant.place (sym c.stands_at.ensures ∙ c.if-stands_at.false));
      shallow = let deeper = c.behind-inside.ensures.deeper in let before = c.loop-index.invariant.shallow in
          omega (arith, deeper, before);
    }

pub returns-clause-place : goal.returns-clause-place
returns-clause-place c =
    nowhere c.loop-index.inside c.args.wanted c.loop-index.index c.args.text.now (omega arith)
    c.loop-index.invariant.place
