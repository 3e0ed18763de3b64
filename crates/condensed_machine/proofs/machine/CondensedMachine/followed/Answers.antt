use Rattle.std.proofs.Common.{subst}
use Rattle.condensed_machine.specs.Machine.{Machine}
use Rattle.condensed_machine.specs.{Steps.no_turns, Tables.HasNumber}
use Rattle.condensed_machine.proofs.WholeStep.{nobody_follows}
use Rattle.condensed_machine.proofs.machine.CondensedMachine.followed.Goals as goal

pub returns-clause-followed : goal.returns-clause-followed
returns-clause-followed c =
    nobody_follows c.args.self.now c.args.next c.no_others.result
    (subst (λ (m : Machine). HasNumber m.rows no_turns c.no_others.result) c.self.view_is c.no_others.ensures)
