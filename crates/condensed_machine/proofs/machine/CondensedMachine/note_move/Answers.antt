use Rattle.std.proofs.Common.{sym, subst}
use Rattle.condensed_machine.specs.Machine.{Machine}
use Rattle.condensed_machine.specs.Moves.{AreMoves, IsMoveOf}
use Rattle.condensed_machine.proofs.Noted.{noted_after}
use Rattle.condensed_machine.proofs.machine.CondensedMachine.note_move.Goals as goal
use Rattle.condensed_machine.proofs.machine.CondensedMachine.note_move.Goals.{After-insert}

moves : (c : After-insert) → AreMoves c.self.inside.program c.self.inside.hart_states.keys
    c.self.inside.shared_states.keys c.insert.new.self.entries
moves c =
    let a = c.self.inside in
    noted_after a.program a.hart_states.keys a.shared_states.keys c.insert.result a.moves.entries
    c.insert.new.self.entries c.args.from c.args.to c.insert.ensures.updates c.insert.ensures.err (λ u. u.0)
    (subst (λ (m : Machine). IsMoveOf m c.args.from c.args.to) (sym c.self.view_is) c.requires) c.self.invariant.moves

pub invariant_of-self : goal.invariant_of-self
invariant_of-self c = record {
  sound = c.self.invariant.sound;
  zero = c.self.invariant.zero;
  registers = c.self.invariant.registers;
  rest = c.self.invariant.rest;
  code = c.self.invariant.code;
  forms = c.self.invariant.forms;
  rests = c.self.invariant.rests;
  moves = moves (goal.at.invariant_of-self c).After-insert;
}

pub invariant_of-self-2 : goal.invariant_of-self-2
invariant_of-self-2 c = record {
  sound = c.self.invariant.sound;
  zero = c.self.invariant.zero;
  registers = c.self.invariant.registers;
  rest = c.self.invariant.rest;
  code = c.self.invariant.code;
  forms = c.self.invariant.forms;
  rests = c.self.invariant.rests;
  moves = moves (goal.at.invariant_of-self-2 c).After-insert;
}
