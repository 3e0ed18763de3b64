-- The tests of the parts are the rules of a rename.
use Rattle.std.proofs.Common.{◌≡◌, ◌∙◌, sym, ap, map, not}
use Rattle.smt_model.specs.{Rules.is_first, Rules.refused}
use Rattle.core_parts.specs.declared.slot.Slot.{Slot}
use Rattle.core_state.proofs.{Following.Place.parts_agree, Following.Place.queue_size, Following.Place.hart_inside, Following.Tests.not_full}
use Rattle.events.specs.declared.event.Event.TheVariants.{Rename}
use Rattle.core_state.proofs.Following.Rename.{no_actor, not_there, there}
use Rattle.core_state.proofs.state.State.judge_rename.Goals as goal
use Rattle.core_state.proofs.state.State.judge_rename.Goals.{After-first_failing-broken}

pub returns-then-not-has_actor-clause-rule : goal.returns-then-not-has_actor-clause-rule
returns-then-not-has_actor-clause-rule c =
    sym (no_actor c.args.self.now.setup c.args.self.now.past c.args.actor c.args.seq c.args.phys
    (sym c.has_actor.ensures ∙ c.if-not-has_actor.true))

pub returns-in_default-clause-rule : goal.returns-in_default-clause-rule
returns-in_default-clause-rule c =
    sym (not_there c.args.self.now.setup c.args.self.now.past c.args.actor c.args.seq c.args.phys
    (sym c.has_actor.ensures ∙ c.if-not-has_actor.false) c.in_default.ensures.nowhere)

told : (c : After-first_failing-broken)
    → c.first_failing-broken.result ≡ refused c.args.self.now.setup c.args.self.now.past (Rename c.args.actor c.args.seq c.args.phys)
told c =
    let i = c.self.inside in
    let v = c.args.self.now in
    let x = c.hart-state.result.now in
    let slot = c.in-Some.slot in
    c.first_failing-broken.ensures
    ∙ sym (there v.setup v.past c.args.actor c.args.seq c.args.phys c.in-Some.hart slot x i.parts
    c.is_oldest.result (not c.is_full.result) (not c.is_full-2.result) c.has_load_room.result c.has_store_room.result
    c.is_fitting.result c.may_take.result
    (sym c.has_actor.ensures ∙ c.if-not-has_actor.false) c.in-Some.ensures.there c.hart-state.ensures
    (parts_agree i c.self.invariant v c.self.view_is) (queue_size i c.self.invariant v c.self.view_is)
    (hart_inside i c.self.invariant v c.self.view_is c.in-Some.hart c.in-Some.ensures.there.inside)
    (record {
      oldest = c.is_oldest.ensures ∙ ap (λ xs. is_first c.args.seq (map (λ (z : Slot). z.seq) xs)) c.deref.ensures.0;
      queue_room = ap not c.is_full.ensures.value ∙ not_full _ _ c.is_full.ensures.bound;
      flight_room = ap not c.is_full-2.ensures.value ∙ not_full _ _ c.is_full-2.ensures.bound;
      load_room = c.has_load_room.ensures;
      store_room = c.has_store_room.ensures;
      named = c.is_fitting.ensures;
      free = c.may_take.ensures;
    }))

pub returns-in-Some-broken-clause-rule : goal.returns-in-Some-broken-clause-rule
returns-in-Some-broken-clause-rule c = sym c.in-Some-broken.is ∙ told c.before

pub returns-in-None-clause-rule : goal.returns-in-None-clause-rule
returns-in-None-clause-rule c = sym c.in-None.is ∙ told c.before
