-- The tests of the parts are the rules that a retirement and a refetch have in common.
use Rattle.std.proofs.Common.{◌∙◌, sym}
use Rattle.core_state.proofs.Following.Retire.{no_actor, gone, waits, not_oldest, none_breaks, can_retire}
use Rattle.core_state.proofs.state.State.judge_oldest.Goals as goal

pub returns-then-not-has_actor-clause-rule : goal.returns-then-not-has_actor-clause-rule
returns-then-not-has_actor-clause-rule c =
    sym (no_actor c.args.self.now.setup c.args.self.now.past c.args.actor c.args.seq
    (sym c.has_actor.ensures ∙ c.if-not-has_actor.true))

pub returns-in_default-clause-rule : goal.returns-in_default-clause-rule
returns-in_default-clause-rule c =
    sym (gone c.args.self.now.setup c.args.self.now.past c.args.actor c.args.seq
    (sym c.has_actor.ensures ∙ c.if-not-has_actor.false) c.in_default.ensures.nowhere)

pub returns-in_default-outcome_at-clause-rule : goal.returns-in_default-outcome_at-clause-rule
returns-in_default-outcome_at-clause-rule c =
    sym (waits c.args.self.now.setup c.args.self.now.past c.args.actor c.args.seq c.in-Some.hart c.in-Some.active
    c.in-Some.ensures.there (sym c.has_actor.ensures ∙ c.if-not-has_actor.false)
    (sym c.outcome_at.ensures ∙ c.in_default-outcome_at.is))

pub returns-then-not-is_oldest_active-clause-rule : goal.returns-then-not-is_oldest_active-clause-rule
returns-then-not-is_oldest_active-clause-rule c =
    sym (not_oldest c.args.self.now.setup c.args.self.now.past c.args.actor c.args.seq c.in-Some.hart c.in-Some.active
    c.in-Some.ensures.there (sym c.has_actor.ensures ∙ c.if-not-has_actor.false) c.in-Some-outcome_at.outcome
    (sym c.outcome_at.ensures ∙ c.in-Some-outcome_at.is) c.hart.result.now c.is_oldest_active.result c.hart.ensures
    c.is_oldest_active.ensures c.if-not-is_oldest_active.true)

pub returns-clause-rule : goal.returns-clause-rule
returns-clause-rule c =
    sym (none_breaks c.args.self.now.setup c.args.self.now.past c.args.actor c.args.seq c.in-Some.hart c.in-Some.active
    c.in-Some.ensures.there (sym c.has_actor.ensures ∙ c.if-not-has_actor.false) c.in-Some-outcome_at.outcome
    (sym c.outcome_at.ensures ∙ c.in-Some-outcome_at.is) c.hart.result.now c.is_oldest_active.result c.hart.ensures
    c.is_oldest_active.ensures c.if-not-is_oldest_active.false)

pub returns-clause-can : goal.returns-clause-can
returns-clause-can c =
    can_retire c.args.self.now.setup c.args.self.now.past c.args.actor c.args.seq c.in-Some.hart c.in-Some.active
    c.in-Some.ensures.there (sym c.has_actor.ensures ∙ c.if-not-has_actor.false) c.in-Some-outcome_at.outcome
    (sym c.outcome_at.ensures ∙ c.in-Some-outcome_at.is) c.hart.result.now c.is_oldest_active.result c.hart.ensures
    c.is_oldest_active.ensures c.if-not-is_oldest_active.false
