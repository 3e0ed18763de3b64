use Rattle.std.proofs.Common.{◌≡◌, Bool, ◌<◌, length, Some, refl, sym, ap, subst, ◌∙◌}
use Rattle.std.specs.Prelude.{not, slice_index, slice_get}
use Rattle.std.proofs.lemmas.Option.{slice_get-get_or, slice_get_within}
use Rattle.elf_image.specs.Image.{ProgramImage}
use Rattle.condensed_machine.specs.Machine.{Machine, Grows, HasCode, HaveCode, HaveZero}
use Rattle.condensed_machine.specs.Distinct.{AreAtRest, HaveOneForm, HaveRegisters}
use Rattle.condensed_machine.specs.MachineInside.{machine_of}
use Rattle.condensed_machine.specs.Decoded.{hart_at, shared_at, no_hart, no_shared}
use Rattle.condensed_machine.specs.{Tables.IsSharedAfter, Resting.keeps_reservation, Moves.AreMoves}
use Rattle.outcome_laws.specs.Local.{keeps_to}
use Rattle.live_registers.specs.Targets.{allows}
use Rattle.condensed_machine.proofs.{Coded.codes_kept, Instructions.fits_noted, Instructions.keeps_where_none}
use Rattle.condensed_machine.specs.Losing.{AreRests}
use Rattle.condensed_machine.proofs.{Distinct.at_rest, Distinct.forms_kept, Moving.free_behind}
use Rattle.condensed_machine.proofs.Noted.{moves_stay, rests_stay}
use Rattle.condensed_machine.proofs.Zero.{zero_behind, zero_rests}
use Rattle.condensed_machine.proofs.machine.CondensedMachine.make_move.Goals as goal
use Rattle.condensed_machine.proofs.machine.CondensedMachine.make_move.Goals.{After-number_hart, After-number_shared}

-- ---- The parts from which it begins

number_within : (c : After-number_hart) → c.args.from.number < length c.self.inside.hart_states.keys
number_within c = subst (λ (m : Machine). c.args.from.number < length m.hart_states) (sym c.self.view_is) c.requires.number

shared_within : (c : After-number_hart) → c.args.from.shared < length c.self.inside.shared_states.keys
shared_within c = subst (λ (m : Machine). c.args.from.shared < length m.shared_states) (sym c.self.view_is) c.requires.shared

hart_is : (c : After-number_hart) → slice_get c.self.inside.hart_states.keys c.args.from.number
    ≡ Some c.numbered_hart.result.now
hart_is c =
    slice_get-get_or c.self.inside.hart_states.keys c.args.from.number no_hart (number_within c)
    ∙ ap (λ (m : Machine). Some (hart_at m.hart_states c.args.from.number)) c.self.view_is
    ∙ ap Some (sym c.numbered_hart.ensures)

common_is : (c : After-number_hart) → slice_get c.self.inside.shared_states.keys c.args.from.shared
    ≡ Some c.numbered_shared-before.result.now
common_is c =
    slice_get-get_or c.self.inside.shared_states.keys c.args.from.shared no_shared (shared_within c)
    ∙ ap (λ (m : Machine). Some (shared_at m.shared_states c.args.from.shared)) c.self.view_is
    ∙ ap Some (sym c.numbered_shared-before.ensures)

zero_before : (c : After-number_hart) → slice_index c.numbered_hart.result.now.registers 0 ≡ 0
zero_before c = c.self.invariant.zero c.args.from.number c.numbered_hart.result.now (hart_is c)

code_before : (c : After-number_hart) → HasCode c.self.inside.program.image c.numbered_shared-before.result.now
code_before c = c.self.invariant.code c.args.from.shared c.numbered_shared-before.result.now (common_is c)

pub execute-executed-requires-clause-code : goal.execute-executed-requires-clause-code
execute-executed-requires-clause-code c =
    let within = subst (λ (m : Machine). c.args.from.shared < length m.shared_states) (sym c.self.view_is)
    c.requires.shared in
    c.self.invariant.code c.args.from.shared c.numbered_shared-before.result.now
    (slice_get-get_or c.self.inside.shared_states.keys c.args.from.shared no_shared within
    ∙ ap (λ (m : Machine). Some (shared_at m.shared_states c.args.from.shared)) c.self.view_is
    ∙ ap Some (sym c.numbered_shared-before.ensures))

-- ---- What stays

abbrev free : After-number_hart → Bool
free c = not c.has_reservation_behind-is_free.result

zeros : (c : After-number_hart) → HaveZero c.number_hart.new.harts.keys
zeros c =
    let p = c.self.inside.program in
    c.number_hart.ensures.zero c.self.invariant.zero
    (zero_rests p (free c) c.execute-executed.new.state c.come_to_rest-steps.new.state c.come_to_rest-steps.result
    c.come_to_rest-steps.ensures
    (zero_behind p c.args.from.hart c.numbered_hart.result.now c.execute-executed.new.state
    c.numbered_shared-before.result.now c.execute-executed.ensures.behind (zero_before c)))

rest : (c : After-number_hart) → AreAtRest c.self.inside.program.live c.self.inside.program.watched
    c.number_hart.new.harts.keys
rest c =
    let p = c.self.inside.program in
    c.number_hart.ensures.rest p.live p.watched c.self.invariant.rest
    (at_rest p (free c) c.execute-executed.new.state c.come_to_rest-steps.new.state c.come_to_rest-steps.result
    c.come_to_rest-steps.ensures)

registers : (c : After-number_hart) → HaveRegisters c.number_hart.new.harts.keys
registers c = c.number_hart.ensures.registers c.self.invariant.registers

forms : (c : After-number_shared) → HaveOneForm c.self.inside.program.image c.number_shared.new.shared.keys
forms c =
    forms_kept c.self.inside.program.image c.start.result.now.image c.self.inside.shared_states.keys
    c.number_shared.new.shared.keys c.start.ensures.image c.number_shared.ensures.forms c.self.invariant.forms

codes : (c : After-number_shared) → HaveCode c.self.inside.program.image c.number_shared.new.shared.keys
codes c =
    codes_kept c.self.inside.program.image c.start.result.now.image c.self.inside.shared_states.keys
    c.number_shared.new.shared.keys c.start.ensures.image c.number_shared.ensures.code c.self.invariant.code

moves_first : (c : After-number_hart) → AreMoves c.self.inside.program c.number_hart.new.harts.keys
    c.self.inside.shared_states.keys c.self.inside.moves.entries
moves_first c =
    moves_stay c.self.inside.program c.self.inside.hart_states.keys c.number_hart.new.harts.keys
    c.self.inside.shared_states.keys c.self.inside.shared_states.keys c.number_hart.ensures.kept (λ n x is. is)
    c.self.inside.moves.entries c.self.invariant.moves

moves_then : (c : After-number_shared) → AreMoves c.self.inside.program c.number_hart.new.harts.keys
    c.number_shared.new.shared.keys c.self.inside.moves.entries
moves_then c =
    moves_stay c.self.inside.program c.self.inside.hart_states.keys c.number_hart.new.harts.keys
    c.self.inside.shared_states.keys c.number_shared.new.shared.keys c.number_hart.ensures.kept
    c.number_shared.ensures.kept c.self.inside.moves.entries c.self.invariant.moves

rests : (c : After-number_hart) → AreRests c.self.inside.program c.number_hart.new.harts.keys
    c.self.inside.rests.entries
rests c =
    rests_stay c.self.inside.program c.self.inside.hart_states.keys c.number_hart.new.harts.keys
    c.number_hart.ensures.kept c.self.inside.rests.entries c.self.invariant.rests

pub invariant_of-self : goal.invariant_of-self
invariant_of-self c = record {
  sound = c.self.invariant.sound;
  zero = zeros (goal.at.invariant_of-self c).After-number_hart;
  registers = registers (goal.at.invariant_of-self c).After-number_hart;
  rest = rest (goal.at.invariant_of-self c).After-number_hart;
  code = c.self.invariant.code;
  forms = c.self.invariant.forms;
  moves = moves_first (goal.at.invariant_of-self c).After-number_hart;
  rests = rests (goal.at.invariant_of-self c).After-number_hart;
}

pub invariant_of-self-in_err-shared : goal.invariant_of-self-in_err-shared
invariant_of-self-in_err-shared c = record {
  sound = c.self.invariant.sound;
  zero = zeros (goal.at.invariant_of-self-in_err-shared c).After-number_hart;
  registers = registers (goal.at.invariant_of-self-in_err-shared c).After-number_hart;
  rest = rest (goal.at.invariant_of-self-in_err-shared c).After-number_hart;
  code = codes (goal.at.invariant_of-self-in_err-shared c).After-number_shared;
  forms = forms (goal.at.invariant_of-self-in_err-shared c).After-number_shared;
  moves = moves_then (goal.at.invariant_of-self-in_err-shared c).After-number_shared;
  rests = rests (goal.at.invariant_of-self-in_err-shared c).After-number_hart;
}

pub invariant_of-self-2 : goal.invariant_of-self-2
invariant_of-self-2 c = record {
  sound = c.self.invariant.sound;
  zero = zeros (goal.at.invariant_of-self-2 c).After-number_hart;
  registers = registers (goal.at.invariant_of-self-2 c).After-number_hart;
  rest = rest (goal.at.invariant_of-self-2 c).After-number_hart;
  code = codes (goal.at.invariant_of-self-2 c).After-number_shared;
  forms = forms (goal.at.invariant_of-self-2 c).After-number_shared;
  moves = moves_then (goal.at.invariant_of-self-2 c).After-number_shared;
  rests = rests (goal.at.invariant_of-self-2 c).After-number_hart;
}

-- ---- What it comes to

abbrev after : After-number_shared → Machine
after c = record {
  program = c.self.inside.program;
  hart_states = c.number_hart.new.harts.keys;
  far_harts = c.self.inside.far_harts.keys;
  shared_states = c.number_shared.new.shared.keys;
  rows = c.self.inside.rows;
}

grows : (c : After-number_shared) → Grows (machine_of c.self.inside) (after c)
grows c = record {
  program = refl;
  hart_states = c.number_hart.ensures.kept;
  far_harts = λ n x is. is;
  shared_states = c.number_shared.ensures.kept;
  rows = λ n x is. is;
}

pub returns-in_err-shared-clause-grows : goal.returns-in_err-shared-clause-grows
returns-in_err-shared-clause-grows c =
    let at = (goal.at.returns-in_err-shared-clause-grows c).After-number_shared in
    subst (λ m. Grows m (after at)) c.self.view_is (grows at)

pub returns-clause-grows : goal.returns-clause-grows
returns-clause-grows c =
    let at = (goal.at.returns-clause-grows c).After-number_shared in
    subst (λ m. Grows m (after at)) c.self.view_is (grows at)

pub returns-clause-is_move : goal.returns-clause-is_move
returns-clause-is_move c =
    let early = (goal.at.returns-clause-is_move c).After-number_hart in
    let p = c.self.inside.program in
    let h = c.args.from.hart in
    let e = c.execute-executed.result in
    let common = c.numbered_shared-before.result.now in
    let table = c.number_shared.new.shared.keys in
    let keeps = keeps_reservation p c.come_to_rest-steps.new.state in
    let before = shared_at c.self.inside.shared_states.keys c.args.from.shared in
    let same : before ≡ common =
    ap (λ (m : Machine). shared_at m.shared_states c.args.from.shared) c.self.view_is
    ∙ sym c.numbered_shared-before.ensures in
    record {
      here = c.numbered_hart.result.now;
      common = common;
      at = c.number_hart.ensures.kept c.args.from.number c.numbered_hart.result.now (hart_is early);
      shares = c.number_shared.ensures.kept c.args.from.shared common (common_is early);
      zero = zero_before early;
      code = code_before early;
      done = e;
      behind = c.execute-executed.new.state;
      moved = c.come_to_rest-steps.new.state;
      executed = c.execute-executed.ensures.executed;
      is_behind = c.execute-executed.ensures.behind;
      fitting = λ setup s image inside is agrees.
          fits_noted p setup s h c.numbered_hart.result.now e c.self.invariant.sound image is
          (c.execute-executed.ensures.executed setup s image inside is agrees)
          (keeps_where_none c.lacking.result
          (keeps_to (allows p.targets) e.op c.numbered_hart.result.now.pc e.effect.next) c.lacking.ensures.lacks
          c.in_default.is);
      free = not c.has_reservation_behind-is_free.result;
      is_free = λ setup s image inside is agrees.
          free_behind p.image setup s h e common c.has_reservation_behind-is_free.result
          (c.execute-executed.ensures.executed setup s image inside is agrees) agrees
          c.has_reservation_behind-is_free.ensures;
      rests = c.come_to_rest-steps.ensures;
      has = c.in_ok-number.ensures.number;
      after =
          subst (λ (i : ProgramImage). IsSharedAfter i h e keeps common table c.in_ok-shared.shared)
          c.start.ensures.image
          (subst (λ old. IsSharedAfter c.start.result.now.image h e keeps old table c.in_ok-shared.shared) same
          (subst (λ (kept : Bool). IsSharedAfter c.start.result.now.image h e kept before table c.in_ok-shared.shared)
          c.keeps_reservation-is_kept.ensures c.in_ok-shared.ensures.number));
    }

-- ---- What is asked of whether it has ended a reservation

pub takes-takes-requires-clause-before : goal.takes-takes-requires-clause-before
takes-takes-requires-clause-before c =
    let common = c.numbered_shared-before.result.now in
    let early = (goal.at.takes-takes-requires-clause-before c).After-number_hart in
    slice_get_within c.number_shared.new.shared.keys c.args.from.shared common
    (c.number_shared.ensures.kept c.args.from.shared common (common_is early))

pub takes-takes-requires-clause-behind : goal.takes-takes-requires-clause-behind
takes-takes-requires-clause-behind c =
    let numbered = c.in_ok-shared.ensures.number in
    slice_get_within c.number_shared.new.shared.keys c.in_ok-shared.shared numbered.after numbered.has
