use Rattle.std.proofs.Common.{◌≡◌, ◌∙◌, sym, subst, None}
use Rattle.std.specs.Prelude.{IfNone}
use Rattle.smt_model.specs.Rules.{refused}
use Rattle.core_state.specs.Answers.{IsStrange}
use Rattle.core_state.proofs.Steps.Complete.State.{core_job_hart, core_job_place, core_stranger, core_completes}
use Rattle.core_state.proofs.Steps.Complete.State.{core_active, core_is_job, core_drops}
use Rattle.core_state.proofs.state.State.complete.Goals as goal

pub in_flight-requires : goal.in_flight-requires
in_flight-requires c =
    core_job_hart c.self.inside c.self.invariant c.args.actor c.in_ok-job.job c.in_ok-job.ensures.some

pub drop_job-requires-clause-allowed : goal.drop_job-requires-clause-allowed
drop_job-requires-clause-allowed c =
    core_drops c.self.inside c.self.invariant c.args.self.now c.self.view_is c.args.actor c.in_ok-job.job
    c.in_ok-job.ensures.some
    c.in_default.ensures.none

pub returns-in_default-clause-allowed : goal.returns-in_default-clause-allowed
returns-in_default-clause-allowed c =
    let v = c.args.self.now in
    subst (λ e. refused v.setup v.past e ≡ None) (sym c.drop_job.ensures.event)
    (core_drops c.self.inside c.self.invariant v c.self.view_is c.args.actor c.in_ok-job.job c.in_ok-job.ensures.some
    c.in_default.ensures.none)

pub completion_of-outcome-requires : goal.completion_of-outcome-requires
completion_of-outcome-requires c =
    core_job_place c.self.inside c.self.invariant c.args.actor c.in_ok-job.job c.in_ok-job.ensures.some

pub finish-requires-clause-allowed : goal.finish-requires-clause-allowed
finish-requires-clause-allowed c =
    core_completes c.self.inside c.self.invariant c.args.self.now c.self.view_is c.args.actor c.in_ok-job.job
    c.args.done.now.job c.in-Some.active c.outcome.result c.completion_of-outcome.result c.in_ok-job.ensures.some c.in_ok-job.ensures.same
    (c.outcome.ensures.value ∙ c.outcome.ensures.computed) c.completion_of-outcome.ensures c.in-Some.ensures.some

pub finish-requires-clause-active : goal.finish-requires-clause-active
finish-requires-clause-active c =
    core_active c.self.inside c.self.invariant c.args.self.now c.self.view_is c.in_ok-job.job c.in-Some.active
    c.in-Some.ensures.some

pub returns-clause-allowed : goal.returns-clause-allowed
returns-clause-allowed c =
    let v = c.args.self.now in
    subst (λ e. refused v.setup v.past e ≡ None) (sym c.finish.ensures.event)
    (core_completes c.self.inside c.self.invariant v c.self.view_is c.args.actor c.in_ok-job.job c.args.done.now.job
    c.in-Some.active c.outcome.result c.completion_of-outcome.result c.in_ok-job.ensures.some c.in_ok-job.ensures.same
    (c.outcome.ensures.value ∙ c.outcome.ensures.computed) c.completion_of-outcome.ensures c.in-Some.ensures.some)

pub returns-clause-job : goal.returns-clause-job
returns-clause-job c =
    core_is_job c.self.inside c.self.invariant c.args.self.now c.self.view_is c.args.actor c.in_ok-job.job
    c.args.done.now.job c.in_ok-job.ensures.some c.in_ok-job.ensures.same

pub returns-in_err-job-clause-stranger : goal.returns-in_err-job-clause-stranger
returns-in_err-job-clause-stranger c =
    let v = c.args.self.now in
    subst (λ r. IfNone r (IsStrange v.setup v.past c.args.actor c.args.done.now.job)) (sym c.from_residual.ensures)
    (core_stranger c.self.inside c.self.invariant v c.self.view_is c.args.actor c.args.done.now.job
    c.in_err-job.ensures.none)
