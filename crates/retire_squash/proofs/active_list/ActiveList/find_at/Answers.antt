use Rattle.std.proofs.Common.{◌==◌, ◌∙◌, find, Some, sym, ap}
use Rattle.retire_squash.proofs.Stages.{found_in_ring}
use Rattle.retire_squash.proofs.active_list.ActiveList.find_at.Goals as goal

pub returns : goal.returns
returns c =
    let s = c.self.inside in
    let ring = c.self.invariant in
    ap Some c.index.ensures
    ∙ sym (found_in_ring s.first s.count s.places.items ring.0 ring.1 ring.2 c.args.seq c.in_ok-place.place c.index.result.now
    ring.3 (rw (← c.as_slice.ensures.value) c.in_ok-place.ensures.some))
    ∙ ap (find (λ x. x.seq == c.args.seq)) c.self.view_is
