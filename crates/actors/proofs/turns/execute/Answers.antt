use Rattle.std.proofs.Common.{true, false, ap, refl}
use Rattle.actors.proofs.Handing.{handed_back}
use Rattle.actors.proofs.turns.execute.Goals as goal

pub returns-then-goes_on-clause-asked : goal.returns-then-goes_on-clause-asked
returns-then-goes_on-clause-asked g c = handed_back g.L.Origin.setup g.L.Origin.limit c.args.pass.now.actor
    c.issue-job.new.pass.actor c.issue-job.result.0 c.in-Some.job
    (record { count = c.args.pass.now.count; last = c.args.pass.now.last })
    c.issue-job.result.1
    (record { count = c.issue-job.new.pass.count; last = c.issue-job.new.pass.last })
    c.work.result c.make-completed.result
    (record { count = c.make-completed.new.pass.count; last = c.make-completed.new.pass.last })
    true c.then.result
    c.issue-job.ensures.asked c.in-Some.is (ap (λ d. d.job) c.work.ensures) c.issue-job.ensures.actor
    c.make-completed.ensures.asked c.then.ensures

pub returns-else-goes_on-clause-asked : goal.returns-else-goes_on-clause-asked
returns-else-goes_on-clause-asked g c = handed_back g.L.Origin.setup g.L.Origin.limit c.args.pass.now.actor
    c.issue-job.new.pass.actor c.issue-job.result.0 c.in-Some.job
    (record { count = c.args.pass.now.count; last = c.args.pass.now.last })
    c.issue-job.result.1
    (record { count = c.issue-job.new.pass.count; last = c.issue-job.new.pass.last })
    c.work.result c.make-completed.result
    (record { count = c.make-completed.new.pass.count; last = c.make-completed.new.pass.last })
    false _
    c.issue-job.ensures.asked c.in-Some.is (ap (λ d. d.job) c.work.ensures) c.issue-job.ensures.actor
    c.make-completed.ensures.asked refl
