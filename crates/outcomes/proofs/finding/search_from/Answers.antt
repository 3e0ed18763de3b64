use Rattle.std.proofs.Common.{◌≡◌, false, subst}
use Rattle.condensed_machine.specs.Machine.{Program}
use Rattle.outcomes.proofs.Growing.{still_begun}
use Rattle.outcomes.proofs.finding.search_from.Goals as goal

pub returns-in-Ok-clause-begun : goal.returns-in-Ok-clause-begun
returns-in-Ok-clause-begun g c =
    still_begun c.args.machine.now c.explore.new.machine c.args.begun c.explore.ensures.grows c.requires.known
    c.requires.begun

pub returns-in-Err-Memory-clause-begun : goal.returns-in-Err-Memory-clause-begun
returns-in-Err-Memory-clause-begun g c =
    still_begun c.args.machine.now c.explore.new.machine c.args.begun c.explore.ensures.grows c.requires.known
    c.requires.begun

pub returns-in-Err-Lacks-clause-begun : goal.returns-in-Err-Lacks-clause-begun
returns-in-Err-Lacks-clause-begun g c =
    still_begun c.args.machine.now c.explore.new.machine c.args.begun c.explore.ensures.grows c.requires.known
    c.requires.begun

pub returns-in-Err-Lacks-clause-cut_short : goal.returns-in-Err-Lacks-clause-cut_short
returns-in-Err-Lacks-clause-cut_short g c =
    let lacks = rw c.in-Err-Lacks.field-0-is at c.in-Err-Lacks.ensures.lacks in
    subst (λ (p : Program). p.targets.anywhere ≡ false) c.explore.ensures.grows.program lacks.0
