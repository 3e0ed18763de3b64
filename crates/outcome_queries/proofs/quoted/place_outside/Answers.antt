use Rattle.std.proofs.Common.{◌≡◌, ◌+◌, false, drop, option_map, sym, subst, arith, ◌∙◌}
use Rattle.outcome_queries.specs.Quoted.{place_outside}
use Rattle.outcome_queries.proofs.Outside.{found_here, not_here, nowhere}
use Rattle.outcome_queries.proofs.quoted.place_outside.Goals as goal

pub returns-then-stands_here-clause-place : goal.returns-then-stands_here-clause-place
returns-then-stands_here-clause-place c =
    found_here c.loop-index.is_quoted c.args.separator c.loop-index.index _ c.args.text.now (omega arith)
    c.loop-index.invariant (sym c.stands_here.ensures ∙ c.if-stands_here.true)

pub loop-index-preserved : goal.loop-index-preserved
loop-index-preserved c =
    let text = c.args.text.now in
    subst (λ q. place_outside false c.args.separator text ≡ option_map (λ k. c.loop-index.index + 1 + k)
    (place_outside q c.args.separator (drop (c.loop-index.index + 1) text))) (sym c.is_quoted_behind-is_quoted.ensures)
    (not_here c.loop-index.is_quoted c.args.separator c.loop-index.index _ text (omega arith)
    c.loop-index.invariant (sym c.stands_here.ensures ∙ c.if-stands_here.false))

pub returns-clause-place : goal.returns-clause-place
returns-clause-place c =
    nowhere c.loop-index.is_quoted c.args.separator c.loop-index.index c.args.text.now (omega arith)
    c.loop-index.invariant
