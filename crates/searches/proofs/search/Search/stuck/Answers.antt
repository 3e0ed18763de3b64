use Rattle.searches.proofs.Marking.{least_stuck}
use Rattle.searches.proofs.search.Search.stuck.Goals as goal

pub returns : goal.returns
returns g c =
    least_stuck c.args.self.now c.mark_all.new.marks c.mark_all.ensures.marks c.mark_all.ensures.left
    c.first_unmarked.result c.first_unmarked.ensures
