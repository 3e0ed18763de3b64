-- The tests of the parts are the rules of a decode.
use Rattle.std.proofs.Common.{◌≡◌, ◌∙◌, sym, ap, map, nat_lt}
use Rattle.numbers.specs.Sizes.{latch_room}
use Rattle.events.specs.declared.event.Event.TheVariants.{Decode}
use Rattle.smt_model.specs.Rules.{is_first, refused}
use Rattle.core_parts.specs.declared.slot.Slot.{Slot}
use Rattle.core_state.proofs.Following.Decode.{no_actor, not_there, there}
use Rattle.core_state.proofs.state.State.judge_decode.Goals as goal
use Rattle.core_state.proofs.state.State.judge_decode.Goals.{After-first_failing-broken}

pub returns-then-not-has_actor-clause-rule : goal.returns-then-not-has_actor-clause-rule
returns-then-not-has_actor-clause-rule c =
    sym (no_actor c.args.self.now.setup c.args.self.now.past c.args.actor c.args.seq
    (sym c.has_actor.ensures ∙ c.if-not-has_actor.true))

pub returns-in_default-clause-rule : goal.returns-in_default-clause-rule
returns-in_default-clause-rule c =
    sym (not_there c.args.self.now.setup c.args.self.now.past c.args.actor c.args.seq
    (sym c.has_actor.ensures ∙ c.if-not-has_actor.false) c.in_default.ensures.nowhere)

told : (c : After-first_failing-broken)
    → c.first_failing-broken.result ≡ refused c.args.self.now.setup c.args.self.now.past (Decode c.args.actor c.args.seq)
told c =
    c.first_failing-broken.ensures
    ∙ sym (there c.args.self.now.setup c.args.self.now.past c.args.actor c.args.seq c.in-Some.hart
    c.hart-state.result.now c.is_oldest.result (nat_lt c.len.result latch_room)
    (sym c.has_actor.ensures ∙ c.if-not-has_actor.false) c.in-Some.ensures.there c.hart-state.ensures
    (c.is_oldest.ensures ∙ ap (λ xs. is_first c.args.seq (map (λ (x : Slot). x.seq) xs)) c.deref.ensures.0)
    (ap (λ n. nat_lt n latch_room) c.len.ensures.value))

pub returns-in-Some-broken-clause-rule : goal.returns-in-Some-broken-clause-rule
returns-in-Some-broken-clause-rule c = sym c.in-Some-broken.is ∙ told c.before

pub returns-in-None-clause-rule : goal.returns-in-None-clause-rule
returns-in-None-clause-rule c = sym c.in-None.is ∙ told c.before
