use Rattle.searches.specs.Sweeps.{found_by}
use Rattle.searches.proofs.Extents.{ended_early}
use Rattle.searches.proofs.exploring.sweep_and_dive.Goals as goal

pub returns-in_ok-extent-in-Beyond-clause-swept : goal.returns-in_ok-extent-in-Beyond-clause-swept
returns-in_ok-extent-in-Beyond-clause-swept g c =
    ended_early (g.M.Machine.Knows c.dive.new.machine) (g.M.Machine.Steps c.dive.new.machine)
    (g.G.Goal.Meets c.args.goal.now c.dive.new.machine) c.args.budget (found_by c.dive.new.sweep)
    c.in_ok-extent-in-Beyond.ensures.traced c.in_ok-extent-in-Beyond.extent c.in_ok-extent-in-Beyond.ensures.ended
