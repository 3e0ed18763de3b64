use Rattle.std.proofs.Common.{◌∙◌, arith}
use Rattle.reports.specs.Ends.{is_last_of}
use Rattle.reports.proofs.Latest.{last_step, last_whole}
use Rattle.reports.proofs.ends.stopped.last_of.Goals as goal

pub loop-retired-preserved : goal.loop-retired-preserved
loop-retired-preserved c =
    c.later-last.ensures
    ∙ last_step (is_last_of c.args.hart) c.args.records.now _ _ _ c.loop-retired-test.true c.loop-retired.invariant

pub returns : goal.returns
returns c =
    last_whole (is_last_of c.args.hart) c.args.records.now _ _ (omega arith) c.loop-retired.invariant
