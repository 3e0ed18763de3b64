use Rattle.std.specs.Prelude.{◌≡◌, length, Some, slice_index_or, slice_set, List, Option}
use Rattle.std.proofs.Common.{refl, sym, subst}
use Rattle.numbers.specs.Sizes.{most_actors}
use Rattle.core_parts.specs.{Agree.JobsAgree, declared.slot.OpenJob.OpenJob}
use Rattle.core_steps.specs.{Issuing.open_job_of}
use Rattle.core_steps.proofs.Steps.Issue.Parts.{parts_issued}
use Rattle.core_steps.proofs.issue.issue_entry.Goals as goal

pub returns-clause-agrees : goal.returns-clause-agrees
returns-clause-agrees c = λ p q agrees issuing.
    let e = c.args.entry in
    let f = c.requires.step in
    let at = subst (λ i. c.index_mut.result.now ≡ slice_index_or c.args.parts.now.harts.items i c.index_mut.result.now)
    c.from.ensures c.index_mut.ensures.value in
    let all = parts_issued p q c.args.parts.now c.args.actor e c.index_mut.result.now c.leave_queue.new.state c.remove.new.self
    issuing c.requires.ready c.requires.actor agrees f.inside at
    c.leave_queue.ensures.active c.leave_queue.ensures.icount c.leave_queue.ensures.rest c.remove.ensures in
    let job : OpenJob =
    record {
      hart = e.hart;
      place = e.place;
      seq = e.seq;
      op = e.op;
      pc = e.pc;
      first = c.number.result;
      second = c.number-2.result;
    } in
    let same : job ≡ open_job_of e = cc (c.number.ensures, c.number-2.ensures) in
    let jobs : slice_set c.args.parts.now.jobs c.from-2.result (Some job)
    ≡ slice_set c.args.parts.now.jobs c.args.actor (Some (open_job_of e)) = rw (same, c.from-2.ensures) refl in
    record {
      harts = rw c.from.ensures all.0;
      checkpoints = rw c.from.ensures all.8;
      queue = all.1;
      free = all.2;
      registers = agrees.registers;
      values = all.3;
      actors = subst (λ (js : List (Option OpenJob)). length js ≡ most_actors) (sym jobs) all.4;
      jobs = subst (JobsAgree q) (sym jobs) all.5;
      accesses = rw c.from.ensures all.6;
      memory = all.7;
    }
