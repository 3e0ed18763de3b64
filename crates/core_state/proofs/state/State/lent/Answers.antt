use Rattle.std.proofs.Common.{◌∙◌, ap}
use Rattle.smt_model.specs.Account.{open_job_count}
use Rattle.core_state.specs.View.{CoreView}
use Rattle.core_state.proofs.Views.OpenJobs.{lent_now}
use Rattle.core_state.proofs.state.State.lent.Goals as goal

pub returns : goal.returns
returns c = c.count_jobs.ensures
    ∙ (lent_now c.self.inside c.self.invariant ∙ ap (λ (v : CoreView). open_job_count v.setup v.past) c.self.view_is)
