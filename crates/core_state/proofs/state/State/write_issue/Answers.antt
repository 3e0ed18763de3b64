-- The parts make the step, the job is the actor's open one, and the state is a core's after it.
use Rattle.std.proofs.Common.{ap}
use Rattle.events.specs.{History.EventList}
use Rattle.core_state.proofs.Steps.Issue.State.{issue_actor, issue_ready, issue_starts, issue_core, issue_job}
use Rattle.core_state.proofs.state.State.write_issue.Goals as goal

pub issue_entry-job-requires : goal.issue_entry-job-requires
issue_entry-job-requires c = record {
  actor = issue_actor c.self.inside c.self.invariant c.args.self.now c.self.view_is c.args.actor c.args.entry
      c.requires.allowed c.requires.entry;
  ready = issue_ready c.self.inside c.self.invariant c.args.self.now c.self.view_is c.args.actor c.args.entry
      c.requires.allowed c.requires.entry;
  step = issue_starts c.self.inside c.self.invariant c.args.self.now c.self.view_is c.args.actor c.args.entry
      c.requires.allowed c.requires.entry;
}

pub invariant_of-self : goal.invariant_of-self
invariant_of-self c =
    issue_core c.self.inside c.self.invariant c.args.self.now c.self.view_is c.args.actor c.args.entry
    c.requires.allowed c.requires.entry _ _ c.issue_entry-job.ensures.agrees c.issue_entry-job.ensures.sizes c.append.ensures

pub returns-clause-job : goal.returns-clause-job
returns-clause-job c =
    issue_job c.self.inside c.self.invariant c.args.self.now c.self.view_is c.args.actor c.args.entry
    c.requires.allowed c.requires.entry c.issue_entry-job.result _ c.issue_entry-job.ensures.job
    (ap (λ (h : EventList). h.items) c.append.ensures)
