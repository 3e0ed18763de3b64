use Rattle.std.proofs.Common.{subst}
use Rattle.condensed_machine.specs.{Distinct.AreDistinct, MachineInside.machine_of}
use Rattle.condensed_machine.proofs.Distinct.{distinct}
use Rattle.condensed_machine.proofs.machine.CondensedMachine.states_are_distinct.Goals as goal

pub returns : goal.returns
returns c =
    subst AreDistinct c.self.view_is
    (distinct (machine_of c.self.inside) c.self.invariant.sound.few c.as_slice-harts.ensures.unique
    c.as_slice-far.ensures.unique c.as_slice-shared.ensures.unique c.self.invariant.registers c.self.invariant.rest
    c.self.invariant.zero c.self.invariant.forms c.equal_memories_are_one_list.ensures)
