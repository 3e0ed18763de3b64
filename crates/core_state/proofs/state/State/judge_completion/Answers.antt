-- The tests of the parts are the rules of a completion.
use Rattle.std.proofs.Common.{◌∙◌, true, false, sym}
use Rattle.core_parts.proofs.Agreement.Queues.{has_place}
use Rattle.core_state.proofs.Following.Complete.{no_actor, no_job, squashed, tells, lent_it, hart_inside, gone_if}
use Rattle.core_state.proofs.Following.Complete.{flies_if, says_by, there_by}
use Rattle.core_state.proofs.state.State.judge_completion.Goals as goal

pub returns-then-not-has_actor-clause-rule : goal.returns-then-not-has_actor-clause-rule
returns-then-not-has_actor-clause-rule c =
    sym (no_actor c.args.self.now.setup c.args.self.now.past c.args.actor c.args.seq c.args.outcome
    (sym c.has_actor.ensures ∙ c.if-not-has_actor.true))

pub job_with-requires : goal.job_with-requires
job_with-requires c = sym c.has_actor.ensures ∙ c.if-not-has_actor.false

pub returns-in_default-clause-rule : goal.returns-in_default-clause-rule
returns-in_default-clause-rule c =
    sym (no_job c.args.self.now.setup c.args.self.now.past c.args.actor c.args.seq c.args.outcome
    (sym c.has_actor.ensures ∙ c.if-not-has_actor.false) c.in_default.ensures.none)

pub in_flight-requires : goal.in_flight-requires
in_flight-requires c =
    hart_inside c.self.inside c.self.invariant c.args.self.now c.self.view_is c.args.actor c.args.seq c.in-Some.job
    c.in-Some.ensures.some

pub returns-in_default-in_flight-clause-rule : goal.returns-in_default-in_flight-clause-rule
returns-in_default-in_flight-clause-rule c =
    sym (squashed c.args.self.now.setup c.args.self.now.past c.args.actor c.args.seq c.args.outcome
    (sym c.has_actor.ensures ∙ c.if-not-has_actor.false) (lent_it c.self.inside c.self.invariant c.args.self.now c.self.view_is c.args.actor c.args.seq c.in-Some.job
    c.in-Some.ensures.some)
    (gone_if c.self.inside c.self.invariant c.args.self.now c.self.view_is c.args.actor c.args.seq c.in-Some.job
    c.in-Some.ensures.some c.in_default-in_flight.ensures.none))

pub completion_of-now-requires : goal.completion_of-now-requires
completion_of-now-requires c =
    has_place c.self.inside.parts.harts.items c.self.inside.parts.accesses c.in-Some.job.hart
    c.self.invariant.agrees.accesses (hart_inside c.self.inside c.self.invariant c.args.self.now c.self.view_is c.args.actor c.args.seq c.in-Some.job
    c.in-Some.ensures.some)

pub returns-then-not-is_same_outcome-clause-rule : goal.returns-then-not-is_same_outcome-clause-rule
returns-then-not-is_same_outcome-clause-rule c =
    sym (tells c.args.self.now.setup c.args.self.now.past c.args.actor c.args.seq c.args.outcome false
    (sym c.has_actor.ensures ∙ c.if-not-has_actor.false) (lent_it c.self.inside c.self.invariant c.args.self.now c.self.view_is c.args.actor c.args.seq c.in-Some.job
    c.in-Some.ensures.some)
    (flies_if c.self.inside c.self.invariant c.args.self.now c.self.view_is c.args.actor c.args.seq c.in-Some.job
    c.in-Some.ensures.some c.in-Some-in_flight.active c.in-Some-in_flight.ensures.some)
    (says_by c.self.inside c.self.invariant c.args.self.now c.self.view_is c.args.actor c.args.seq c.in-Some.job
    c.in-Some.ensures.some
    c.worked.result c.completion_of-now.result c.args.outcome false c.worked.ensures
    c.completion_of-now.ensures (sym (sym c.is_same_outcome.ensures ∙ c.if-not-is_same_outcome.true))))

pub returns-clause-rule : goal.returns-clause-rule
returns-clause-rule c =
    sym (tells c.args.self.now.setup c.args.self.now.past c.args.actor c.args.seq c.args.outcome true
    (sym c.has_actor.ensures ∙ c.if-not-has_actor.false) (lent_it c.self.inside c.self.invariant c.args.self.now c.self.view_is c.args.actor c.args.seq c.in-Some.job
    c.in-Some.ensures.some)
    (flies_if c.self.inside c.self.invariant c.args.self.now c.self.view_is c.args.actor c.args.seq c.in-Some.job
    c.in-Some.ensures.some c.in-Some-in_flight.active c.in-Some-in_flight.ensures.some)
    (says_by c.self.inside c.self.invariant c.args.self.now c.self.view_is c.args.actor c.args.seq c.in-Some.job
    c.in-Some.ensures.some
    c.worked.result c.completion_of-now.result c.args.outcome true c.worked.ensures
    c.completion_of-now.ensures (sym (sym c.is_same_outcome.ensures ∙ c.if-not-is_same_outcome.false))))

pub returns-clause-there : goal.returns-clause-there
returns-clause-there c =
    there_by c.self.inside c.self.invariant c.args.self.now c.self.view_is c.args.actor c.args.seq c.in-Some.job
    c.in-Some.ensures.some c.in-Some-in_flight.active c.in-Some-in_flight.ensures.some
