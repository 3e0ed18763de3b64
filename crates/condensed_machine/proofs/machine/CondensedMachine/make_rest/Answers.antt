use Rattle.std.proofs.Common.{◌≡◌, ◌<◌, length, true, Some, sym, ap, subst, ◌∙◌}
use Rattle.std.specs.Prelude.{slice_get, slice_index}
use Rattle.std.proofs.lemmas.Option.{slice_get-get_or}
use Rattle.condensed_machine.specs.{Machine.Machine, Machine.HaveZero, Distinct.AreAtRest, Distinct.HaveRegisters}
use Rattle.condensed_machine.specs.Decoded.{hart_at, no_hart}
use Rattle.condensed_machine.specs.{Moves.AreMoves, Losing.AreRests}
use Rattle.condensed_machine.proofs.{Distinct.at_rest, Noted.moves_stay, Noted.rests_stay, Zero.zero_rests}
use Rattle.condensed_machine.proofs.machine.CondensedMachine.make_rest.Goals as goal
use Rattle.condensed_machine.proofs.machine.CondensedMachine.make_rest.Goals.{After-number_hart}

within : (c : After-number_hart) → c.args.number < length c.self.inside.hart_states.keys
within c = subst (λ (m : Machine). c.args.number < length m.hart_states) (sym c.self.view_is) c.requires

hart_is : (c : After-number_hart) → slice_get c.self.inside.hart_states.keys c.args.number
    ≡ Some c.numbered_hart.result.now
hart_is c =
    slice_get-get_or c.self.inside.hart_states.keys c.args.number no_hart (within c)
    ∙ ap (λ (m : Machine). Some (hart_at m.hart_states c.args.number)) c.self.view_is
    ∙ ap Some (sym c.numbered_hart.ensures)

zero_before : (c : After-number_hart) → slice_index c.numbered_hart.result.now.registers 0 ≡ 0
zero_before c = c.self.invariant.zero c.args.number c.numbered_hart.result.now (hart_is c)

-- ---- What stays

zeros : (c : After-number_hart) → HaveZero c.number_hart.new.harts.keys
zeros c =
    c.number_hart.ensures.zero c.self.invariant.zero
    (zero_rests c.self.inside.program true c.numbered_hart.result.now c.come_to_rest-steps.new.state
    c.come_to_rest-steps.result c.come_to_rest-steps.ensures (zero_before c))

registers : (c : After-number_hart) → HaveRegisters c.number_hart.new.harts.keys
registers c = c.number_hart.ensures.registers c.self.invariant.registers

rest : (c : After-number_hart) → AreAtRest c.self.inside.program.live c.self.inside.program.watched
    c.number_hart.new.harts.keys
rest c =
    let p = c.self.inside.program in
    c.number_hart.ensures.rest p.live p.watched c.self.invariant.rest
    (at_rest p true c.numbered_hart.result.now c.come_to_rest-steps.new.state c.come_to_rest-steps.result
    c.come_to_rest-steps.ensures)

moves : (c : After-number_hart) → AreMoves c.self.inside.program c.number_hart.new.harts.keys
    c.self.inside.shared_states.keys c.self.inside.moves.entries
moves c =
    let shared = c.self.inside.shared_states.keys in
    moves_stay c.self.inside.program c.self.inside.hart_states.keys c.number_hart.new.harts.keys shared shared
    c.number_hart.ensures.kept (λ n x is. is) c.self.inside.moves.entries c.self.invariant.moves

rests : (c : After-number_hart) → AreRests c.self.inside.program c.number_hart.new.harts.keys
    c.self.inside.rests.entries
rests c =
    rests_stay c.self.inside.program c.self.inside.hart_states.keys c.number_hart.new.harts.keys
    c.number_hart.ensures.kept c.self.inside.rests.entries c.self.invariant.rests

pub invariant_of-self : goal.invariant_of-self
invariant_of-self c = record {
  sound = c.self.invariant.sound;
  zero = zeros (goal.at.invariant_of-self c).After-number_hart;
  registers = registers (goal.at.invariant_of-self c).After-number_hart;
  rest = rest (goal.at.invariant_of-self c).After-number_hart;
  code = c.self.invariant.code;
  forms = c.self.invariant.forms;
  moves = moves (goal.at.invariant_of-self c).After-number_hart;
  rests = rests (goal.at.invariant_of-self c).After-number_hart;
}

pub invariant_of-self-2 : goal.invariant_of-self-2
invariant_of-self-2 c = record {
  sound = c.self.invariant.sound;
  zero = zeros (goal.at.invariant_of-self-2 c).After-number_hart;
  registers = registers (goal.at.invariant_of-self-2 c).After-number_hart;
  rest = rest (goal.at.invariant_of-self-2 c).After-number_hart;
  code = c.self.invariant.code;
  forms = c.self.invariant.forms;
  moves = moves (goal.at.invariant_of-self-2 c).After-number_hart;
  rests = rests (goal.at.invariant_of-self-2 c).After-number_hart;
}

-- ---- What it comes to

pub returns-clause-rest : goal.returns-clause-rest
returns-clause-rest c =
    let early = (goal.at.returns-clause-rest c).After-number_hart in
    record {
      here = c.numbered_hart.result.now;
      at = c.number_hart.ensures.kept c.args.number c.numbered_hart.result.now (hart_is early);
      zero = zero_before early;
      moved = c.come_to_rest-steps.new.state;
      rests = c.come_to_rest-steps.ensures;
      has = c.in_ok-number.ensures.number;
    }
