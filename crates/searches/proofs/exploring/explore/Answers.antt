use Rattle.std.proofs.Common.{◌∙◌, sym, subst, ap, slice_get}
use Rattle.std.specs.Prelude.{Contains}
use Rattle.searches.specs.Found.{Found, IsExplored, IsToldFor}
use Rattle.searches.specs.Sweeps.{found_by}
use Rattle.searches.proofs.Extents.{tied, known, told, explored}
use Rattle.searches.proofs.exploring.explore.Goals as goal

pub into_search-requires : goal.into_search-requires
into_search-requires g c =
    tied (g.M.Machine.Knows c.sweep_and_dive.new.machine) (g.M.Machine.Steps c.sweep_and_dive.new.machine)
    (g.G.Goal.Meets c.args.goal.now c.sweep_and_dive.new.machine) c.args.budget (found_by c.sweep_and_dive.new.sweep)
    c.in_ok-extent.ensures.few c.in_ok-extent.extent c.in_ok-extent.ensures.swept

pub returns-clause-explored : goal.returns-clause-explored
returns-clause-explored g c =
    let m = c.sweep_and_dive.new.machine in
    let first = c.in_ok-extent.ensures.kept 0 c.args.start
    (ap (λ (f : Found g.row.M-State.Denot g.row.M-Way.Denot). slice_get f.states 0) c.in_ok-sweep.ensures) in
    let harts = c.in_ok-extent.ensures.same
    ∙ (ap (λ (f : Found g.row.M-State.Denot g.row.M-Way.Denot). f.harts) c.in_ok-sweep.ensures
    ∙ (c.harts.ensures ∙ g.met.M.Machine.same_harts c.args.machine.now m c.in_ok-extent.ensures.grows)) in
    subst (λ (f : Found g.row.M-State.Denot g.row.M-Way.Denot). IsExplored (g.M.Machine.Steps m) (g.M.Machine.harts m)
    c.args.start c.args.budget f c.in_ok-extent.extent) (sym c.into_search.ensures)
    (explored (g.M.Machine.Knows m) (g.M.Machine.Steps m) (g.G.Goal.Meets c.args.goal.now m) c.args.budget
    (found_by c.sweep_and_dive.new.sweep) c.args.start first (g.M.Machine.harts m) harts c.in_ok-extent.extent
    c.in_ok-extent.ensures.swept)

pub returns-clause-known : goal.returns-clause-known
returns-clause-known g c s there =
    let m = c.sweep_and_dive.new.machine in
    known (g.M.Machine.Knows m) (g.M.Machine.Steps m) (g.G.Goal.Meets c.args.goal.now m) c.args.budget
    (found_by c.sweep_and_dive.new.sweep) c.in_ok-extent.extent c.in_ok-extent.ensures.swept s
    (subst (λ (f : Found g.row.M-State.Denot g.row.M-Way.Denot). Contains f.states s) c.into_search.ensures there)

pub returns-clause-told : goal.returns-clause-told
returns-clause-told g c =
    let m = c.sweep_and_dive.new.machine in
    subst (λ (f : Found g.row.M-State.Denot g.row.M-Way.Denot). IsToldFor (g.G.Goal.Meets c.args.goal.now m) f
    c.in_ok-extent.extent) (sym c.into_search.ensures)
    (told (g.M.Machine.Knows m) (g.M.Machine.Steps m) (g.G.Goal.Meets c.args.goal.now m) c.args.budget
    (found_by c.sweep_and_dive.new.sweep) c.in_ok-extent.extent c.in_ok-extent.ensures.swept)
