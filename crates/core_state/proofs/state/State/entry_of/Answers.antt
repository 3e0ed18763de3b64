-- The entry that the queue has is the instruction that waits.
use Rattle.core_state.proofs.Following.Issue.{waits, waits_not}
use Rattle.core_state.proofs.Following.Place.{parts_agree, is_legal_view}
use Rattle.core_state.proofs.state.State.entry_of.Goals as goal

pub returns-clause-waits : goal.returns-clause-waits
returns-clause-waits c =
    let i = c.self.inside in
    let v = c.args.self.now in
    let agrees = parts_agree i c.self.invariant v c.self.view_is in
    waits v.setup v.past (is_legal_view i c.self.invariant v c.self.view_is) c.args.seq i.parts.queue.entries
    agrees.queue.numbers agrees.queue.entries c.get.result
    c.get.ensures

pub returns-clause-none : goal.returns-clause-none
returns-clause-none c =
    let i = c.self.inside in
    let v = c.args.self.now in
    let agrees = parts_agree i c.self.invariant v c.self.view_is in
    waits_not v.setup v.past (is_legal_view i c.self.invariant v c.self.view_is) c.args.seq i.parts.queue.entries
    agrees.queue.numbers agrees.queue.entries c.get.result
    c.get.ensures
