-- The tests of the parts are the rules of an issue.
use Rattle.std.proofs.Common.{◌∙◌, sym}
use Rattle.core_state.proofs.Following.Issue.{no_actor, busy, waits_nowhere, there}
use Rattle.core_state.proofs.Following.Place.{parts_agree}
use Rattle.core_state.proofs.state.State.issue_refusal.Goals as goal

pub returns-then-not-has_actor : goal.returns-then-not-has_actor
returns-then-not-has_actor c =
    sym (no_actor c.args.self.now.setup c.args.self.now.past c.args.actor c.args.seq
    (sym c.has_actor.ensures ∙ c.if-not-has_actor.true))

pub idle_unit-requires : goal.idle_unit-requires
idle_unit-requires c = sym c.has_actor.ensures ∙ c.if-not-has_actor.false

pub returns-in_default : goal.returns-in_default
returns-in_default c =
    sym (busy c.args.self.now.setup c.args.self.now.past c.args.actor c.args.seq
    (sym c.has_actor.ensures ∙ c.if-not-has_actor.false) (sym c.idle_unit.ensures ∙ c.in_default.is))

pub returns-in_default-entry_of : goal.returns-in_default-entry_of
returns-in_default-entry_of c =
    sym (waits_nowhere c.args.self.now.setup c.args.self.now.past c.args.actor c.args.seq c.in-Some.kind
    (sym c.has_actor.ensures ∙ c.if-not-has_actor.false) (sym c.idle_unit.ensures ∙ c.in-Some.is)
    c.in_default-entry_of.ensures.none)

pub returns : goal.returns
returns c =
    let i = c.self.inside in
    let v = c.args.self.now in
    let agrees = parts_agree i c.self.invariant v c.self.view_is in
    c.first_failing.ensures
    ∙ sym (there v.setup v.past c.args.actor c.args.seq c.in-Some.kind c.in-Some-entry_of.entry i.parts.queue.entries
    c.is_for.result c.is_ready.result c.is_oldest_ready.result
    (sym c.has_actor.ensures ∙ c.if-not-has_actor.false) (sym c.idle_unit.ensures ∙ c.in-Some.is)
    c.in-Some-entry_of.ensures.waits agrees.queue.numbers agrees.queue.entries c.is_for.ensures c.is_ready.ensures
    c.is_oldest_ready.ensures)
