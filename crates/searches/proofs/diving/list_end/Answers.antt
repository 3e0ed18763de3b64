use Rattle.std.proofs.lemmas.Option.{slice_get_within}
use Rattle.searches.specs.Sweeps.{found_by}
use Rattle.searches.proofs.Places.{read_at}
use Rattle.searches.proofs.Tracing.{end_more, met_at}
use Rattle.searches.proofs.diving.list_end.Goals as goal

pub returns-clause-traced : goal.returns-clause-traced
returns-clause-traced g c =
    end_more (g.M.Machine.Knows c.args.machine.now) (g.M.Machine.Steps c.args.machine.now) (found_by c.args.sweep.now)
    c.requires.traced c.args.place c.requires.end c.push.new.self.items c.in_ok-push.ensures.items

pub returns-clause-met : goal.returns-clause-met
returns-clause-met g c met =
    let keys = c.args.sweep.now.states.keys in
    let inside = slice_get_within keys c.args.place c.requires.end.0 c.requires.end.1 in
    met_at (g.G.Goal.Meets c.args.goal.now c.args.machine.now) (found_by c.args.sweep.now) c.args.place
    c.index-as_slice-place.result
    (read_at keys c.as_slice.result.now c.args.place c.index-as_slice-place.result c.as_slice.ensures.keys inside
    c.index-as_slice-place.is)
    (c.in_ok-is_met.ensures met) c.push.new.self.items c.in_ok-push.ensures.items
