use Rattle.std.proofs.Common.{ap}
use Rattle.condensed_machine.specs.Machine.{Program}
use Rattle.outcomes.proofs.Programs.{when_cut_short}
use Rattle.outcomes.proofs.finding.see_all.Goals as goal

pub returns-in-Err-search_from-clause-unfound : goal.returns-in-Err-search_from-clause-unfound
returns-in-Err-search_from-clause-unfound g c =
    when_cut_short c.args.machine.now.program.image c.args.machine.now.program.harts c.args.watch.now _
    c.args.machine.now.program.targets c.in-Err-search_from.why
    (ap (λ (p : Program). p.targets) c.in-Ok-begin.ensures.grows.program) c.in-Err-search_from.ensures.cut_short
