use Rattle.litmus_cycles.proofs.Reasons.{said_fitting}
use Rattle.litmus_cycles.proofs.explaining.explain_ways.Goals as goal

pub returns-clause-all : goal.returns-clause-all
returns-clause-all g c =
    let e = c.told.ensures in
    said_fitting c.args.test.now c.args.runs.now c.in_ok-findings.findings c.told.result c.in_ok-findings.ensures.all
    (c.has_none.ensures.some c.if-has_none.false) e.candidates e.fitting e.whole e.shown
