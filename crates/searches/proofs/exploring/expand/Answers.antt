use Rattle.std.proofs.Common.{◌+◌, sym, subst, refl, arith, inl, inr, ◌∙◌}
use Rattle.std.proofs.lemmas.Option.{slice_get_within}
use Rattle.searches.specs.Sweeps.{found_by}
use Rattle.searches.proofs.Turning.{Looked, looked_more, moves, rests}
use Rattle.searches.proofs.Tracing.{traced_within, traced_behind, met_at}
use Rattle.searches.proofs.exploring.expand.Goals.{then-is_some, else-is_some}
use Rattle.searches.proofs.exploring.expand.Goals as goal

pub returns-then-len-budget-clause-traced : goal.returns-then-len-budget-clause-traced
returns-then-len-budget-clause-traced g c =
    let i = c.loop-hart.invariant in
    traced_within (g.M.Machine.Knows c.loop-hart.machine) (g.M.Machine.Steps c.loop-hart.machine) c.args.place
    c.loop-hart.hart (found_by c.loop-hart.sweep) i.swept.listed
    (omega (arith, c.loop-hart-test.true, c.loop-hart.auto.hart-end, i.same))
    (slice_get_within c.loop-hart.sweep.states.keys c.args.place _ i.here)

pub loop-hart-preserved : goal.loop-hart-preserved
loop-hart-preserved g c =
    let i = c.loop-hart.invariant in
    let e = c.in_ok-follow.ensures in
    record {
      grows = g.met.M.Machine.learns_more c.args.machine.now c.loop-hart.machine c.follow.new.machine i.grows e.grows;
      harts = e.same ∙ i.harts ∙ g.met.M.Machine.same_harts c.loop-hart.machine c.follow.new.machine e.grows;
      same = e.same ∙ i.same;
      swept = e.swept;
      kept = λ place x at. e.kept place x (i.kept place x at);
      few = omega (arith, e.one, c.if-len-budget.false, c.len.ensures.len);
      here = e.kept c.args.place c.index-as_slice-place.result i.here;
      looked = looked_more (found_by c.loop-hart.sweep) c.args.place c.loop-hart.hart i.swept.listed.filled
          (found_by c.follow.new.sweep)
          c.in_ok-follow.field-0 e.same e.edge c.loop-hart.is_end c.if-is_some.is_end i.looked
          (elim c.if-is_some.branch [
            | then-is_some w ↦ inl (sym c.is_some.ensures ∙ w.if-is_some.true, w.is_end-is)
            | else-is_some w ↦ inr (sym c.is_some.ensures ∙ w.if-is_some.false, w.is_end-is)
          ]);
    }

pub returns-then-not-is_end-clause-swept : goal.returns-then-not-is_end-clause-swept
returns-then-not-is_end-clause-swept g c _ =
    let i = c.loop-hart.invariant in
    let found = found_by c.loop-hart.sweep in
    moves (g.M.Machine.Knows c.loop-hart.machine) (g.M.Machine.Steps c.loop-hart.machine) c.args.place
    c.loop-hart.hart found i.swept (omega (arith, c.loop-hart-test.false, c.loop-hart.auto.hart-end, i.same))
    (subst (λ b. Looked found c.args.place c.loop-hart.hart b) c.if-not-is_end.true i.looked)

pub returns-then-not-is_end-clause-traced : goal.returns-then-not-is_end-clause-traced
returns-then-not-is_end-clause-traced g c =
    let i = c.loop-hart.invariant in
    let found = found_by c.loop-hart.sweep in
    let knows = g.M.Machine.Knows c.loop-hart.machine in
    let steps = g.M.Machine.Steps c.loop-hart.machine in
    let below = slice_get_within found.states c.args.place _ i.here in
    traced_behind knows steps (c.args.place + 1) 0 found
    (moves knows steps c.args.place c.loop-hart.hart found i.swept
    (omega (arith, c.loop-hart-test.false, c.loop-hart.auto.hart-end, i.same))
    (subst (λ b. Looked found c.args.place c.loop-hart.hart b) c.if-not-is_end.true i.looked)).listed refl
    (omega (arith, below))

pub returns-then-branch-clause-traced : goal.returns-then-branch-clause-traced
returns-then-branch-clause-traced g c =
    let i = c.loop-hart.invariant in
    let found = found_by c.loop-hart.sweep in
    let knows = g.M.Machine.Knows c.loop-hart.machine in
    let steps = g.M.Machine.Steps c.loop-hart.machine in
    let below = slice_get_within found.states c.args.place _ i.here in
    traced_behind knows steps (c.args.place + 1) 0 (record found { ends = c.push.new.self.items })
    (rests knows steps c.args.place c.loop-hart.hart found i.swept
    (omega (arith, c.loop-hart-test.false, c.loop-hart.auto.hart-end, i.same))
    (subst (λ b. Looked found c.args.place c.loop-hart.hart b) c.if-not-is_end.false i.looked) c.push.new.self.items
    c.in_ok-push.ensures.items).listed refl (omega (arith, below))

pub returns-then-branch-clause-ended : goal.returns-then-branch-clause-ended
returns-then-branch-clause-ended g c =
    met_at (g.G.Goal.Meets c.args.goal.now c.loop-hart.machine) (found_by c.loop-hart.sweep) c.args.place _
    c.loop-hart.invariant.here (c.in_ok-is_met.ensures c.if-branch.true) c.push.new.self.items
    c.in_ok-push.ensures.items

pub returns-clause-swept : goal.returns-clause-swept
returns-clause-swept g c _ =
    let i = c.loop-hart.invariant in
    let found = found_by c.loop-hart.sweep in
    rests (g.M.Machine.Knows c.loop-hart.machine) (g.M.Machine.Steps c.loop-hart.machine) c.args.place
    c.loop-hart.hart found i.swept
    (omega (arith, c.loop-hart-test.false, c.loop-hart.auto.hart-end, i.same))
    (subst (λ b. Looked found c.args.place c.loop-hart.hart b) c.if-not-is_end.false i.looked) c.push.new.self.items
    c.in_ok-push.ensures.items

pub returns-clause-traced : goal.returns-clause-traced
returns-clause-traced g c =
    let i = c.loop-hart.invariant in
    let found = found_by c.loop-hart.sweep in
    let knows = g.M.Machine.Knows c.loop-hart.machine in
    let steps = g.M.Machine.Steps c.loop-hart.machine in
    let below = slice_get_within found.states c.args.place _ i.here in
    traced_behind knows steps (c.args.place + 1) 0 (record found { ends = c.push.new.self.items })
    (rests knows steps c.args.place c.loop-hart.hart found i.swept
    (omega (arith, c.loop-hart-test.false, c.loop-hart.auto.hart-end, i.same))
    (subst (λ b. Looked found c.args.place c.loop-hart.hart b) c.if-not-is_end.false i.looked) c.push.new.self.items
    c.in_ok-push.ensures.items).listed refl (omega (arith, below))

pub is_met-requires-clause-fits : goal.is_met-requires-clause-fits
is_met-requires-clause-fits g c =
    g.met.G.Goal.still_fits c.args.goal.now c.args.machine.now c.loop-hart.machine c.loop-hart.invariant.grows
    c.requires.fits
