use Rattle.litmus_runs.specs.Ways.{at_start}
use Rattle.litmus_runs.proofs.following.at_start.Goals as goal

pub returns-clause-way : goal.returns-clause-way
returns-clause-way c = at_start c.args.asked.now.thread.now _ c.new.ensures.start
