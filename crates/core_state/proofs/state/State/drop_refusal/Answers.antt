-- The tests of the parts are the rules of a drop.
use Rattle.std.proofs.Common.{◌∙◌, true, false, sym}
use Rattle.core_state.proofs.Following.Complete.{drop_no_actor, drop_no_job, drop_by, lent_it, hart_inside, gone_by}
use Rattle.core_state.proofs.Following.Complete.{flies_by, some_none, none_some}
use Rattle.core_state.proofs.state.State.drop_refusal.Goals as goal

pub returns-then-not-has_actor : goal.returns-then-not-has_actor
returns-then-not-has_actor c =
    sym (drop_no_actor c.args.self.now.setup c.args.self.now.past c.args.actor c.args.seq
    (sym c.has_actor.ensures ∙ c.if-not-has_actor.true))

pub job_with-requires : goal.job_with-requires
job_with-requires c = sym c.has_actor.ensures ∙ c.if-not-has_actor.false

pub returns-in_default : goal.returns-in_default
returns-in_default c =
    sym (drop_no_job c.args.self.now.setup c.args.self.now.past c.args.actor c.args.seq
    (sym c.has_actor.ensures ∙ c.if-not-has_actor.false) c.in_default.ensures.none)

pub in_flight-requires : goal.in_flight-requires
in_flight-requires c =
    hart_inside c.self.inside c.self.invariant c.args.self.now c.self.view_is c.args.actor c.args.seq c.in-Some.job
    c.in-Some.ensures.some

pub returns-then-is_some : goal.returns-then-is_some
returns-then-is_some c =
    sym (drop_by c.args.self.now.setup c.args.self.now.past c.args.actor c.args.seq false
    (sym c.has_actor.ensures ∙ c.if-not-has_actor.false) (lent_it c.self.inside c.self.invariant c.args.self.now c.self.view_is c.args.actor c.args.seq c.in-Some.job
    c.in-Some.ensures.some)
    (flies_by c.self.inside c.self.invariant c.args.self.now c.self.view_is c.args.actor c.args.seq c.in-Some.job
    c.in-Some.ensures.some
    c.in_flight.result (some_none c.in_flight.result (sym c.is_some.ensures ∙ c.if-is_some.true))
    c.in_flight.ensures.some))

pub returns : goal.returns
returns c =
    sym (drop_by c.args.self.now.setup c.args.self.now.past c.args.actor c.args.seq true
    (sym c.has_actor.ensures ∙ c.if-not-has_actor.false) (lent_it c.self.inside c.self.invariant c.args.self.now c.self.view_is c.args.actor c.args.seq c.in-Some.job
    c.in-Some.ensures.some)
    (gone_by c.self.inside c.self.invariant c.args.self.now c.self.view_is c.args.actor c.args.seq c.in-Some.job
    c.in-Some.ensures.some
    c.in_flight.result (none_some c.in_flight.result (sym c.is_some.ensures ∙ c.if-is_some.false))
    c.in_flight.ensures.none))
