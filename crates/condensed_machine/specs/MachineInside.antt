-- How the machine keeps its parts.
use Rattle.condensed_machine.specs.Machine.{Machine, IsSound, HaveZero, HaveCode}
use Rattle.condensed_machine.specs.Moves.{AreMoves}
use Rattle.condensed_machine.specs.Losing.{AreRests}
use Rattle.condensed_machine.specs.Distinct.{HaveRegisters, AreAtRest, HaveOneForm}
use Rattle.condensed_machine.specs.declared.machine.CondensedMachine.TheInside.{Inside}

-- What callers see of a machine.
abbrev pub machine_of : Inside → Machine
machine_of a = record {
  program = a.program;
  hart_states = a.hart_states.keys;
  far_harts = a.far_harts.keys;
  shared_states = a.shared_states.keys;
  rows = a.rows;
}

-- The program is sound; each hart has 32 registers, of which x0 is 0, and so is each that isn't kept; code that may not
-- be written is what the image has, and the changes of memory are kept in their one form; each move that is noted is
-- one, and so it is with what harts come to that have lost their reservations.
pub record IsMachine (a : Inside) : Type 0 where
  pub sound : IsSound a.program
  pub zero : HaveZero a.hart_states.keys
  pub registers : HaveRegisters a.hart_states.keys
  pub rest : AreAtRest a.program.live a.program.watched a.hart_states.keys
  pub code : HaveCode a.program.image a.shared_states.keys
  pub forms : HaveOneForm a.program.image a.shared_states.keys
  pub moves : AreMoves a.program a.hart_states.keys a.shared_states.keys a.moves.entries
  pub rests : AreRests a.program a.hart_states.keys a.rests.entries
