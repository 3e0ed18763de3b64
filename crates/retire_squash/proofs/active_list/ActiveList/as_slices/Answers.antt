use Rattle.std.proofs.Common.{◌∙◌, take, drop}
use Rattle.retire_squash.proofs.Turning.{two_runs}
use Rattle.retire_squash.proofs.active_list.ActiveList.as_slices.Goals as goal

pub returns-clause-items : goal.returns-clause-items
returns-clause-items c =
    let s = c.self.inside in
    rw (c.min-straight_count.ensures, c.split_at.ensures.back, c.split_at.ensures.front, c.as_slice.ensures.value)
    (two_runs s.count (drop s.first s.places.items) (take s.first s.places.items) ∙ c.self.view_is)
