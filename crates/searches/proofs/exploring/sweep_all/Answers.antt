use Rattle.std.proofs.Common.{refl, arith, ◌∙◌}
use Rattle.searches.specs.Sweeps.{found_by}
use Rattle.searches.proofs.Places.{keeps_within}
use Rattle.searches.proofs.Tracing.{traced_behind}
use Rattle.searches.proofs.exploring.sweep_all.Goals as goal

pub returns-then-len-budget-clause-swept : goal.returns-then-len-budget-clause-swept
returns-then-len-budget-clause-swept g c =
    let i = c.loop-place.invariant in (
      traced_behind (g.M.Machine.Knows c.loop-place.machine) (g.M.Machine.Steps c.loop-place.machine)
          c.loop-place.place 0 (found_by c.loop-place.sweep) i.swept.listed refl i.inside,
      omega (arith, c.if-len-budget.true, c.len-in-loop-place.ensures.len),
    )

pub loop-place-preserved : goal.loop-place-preserved
loop-place-preserved g c =
    let i = c.loop-place.invariant in
    let e = c.in_ok-extent.ensures in
    let still = keeps_within c.loop-place.sweep.states.keys c.expand.new.sweep.states.keys e.kept c.loop-place.place
    (omega (arith, c.len.ensures.len, c.loop-place-test.true)) in
    record {
      grows = g.met.M.Machine.learns_more c.args.machine.now c.loop-place.machine c.expand.new.machine i.grows e.grows;
      harts = e.same ∙ i.harts ∙ g.met.M.Machine.same_harts c.loop-place.machine c.expand.new.machine e.grows;
      same = e.same ∙ i.same;
      swept = e.swept c.in-None.is;
      kept = λ place x at. e.kept place x (i.kept place x at);
      few = e.few;
      inside = omega (arith, still);
      least = omega (
        arith,
        c.len.ensures.len,
        c.loop-place-test.true,
        c.if-len-budget.false,
        c.len-in-loop-place.ensures.len,
      );
    }

pub expand-requires-clause-fits : goal.expand-requires-clause-fits
expand-requires-clause-fits g c =
    g.met.G.Goal.still_fits c.args.goal.now c.args.machine.now c.loop-place.machine c.loop-place.invariant.grows
    c.requires.fits
