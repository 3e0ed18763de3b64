use Rattle.std.proofs.Common.{ℕ, ◌<◌, map, length, sym, ap, subst, ◌∙◌, arith}
use Rattle.std.specs.Prelude.{slice_index}
use Rattle.std.proofs.lemmas.Option.{get_or_from_slice_get, slice_get_within}
use Rattle.smt_model.specs.{Plain.start}
use Rattle.changed_memory.specs.Shared.{Shared, reserved_at}
use Rattle.condensed_machine.specs.Decoded.{hart_at, no_hart, no_shared, shared_at}
use Rattle.condensed_machine.specs.Executing.{SharedAgrees}
use Rattle.condensed_machine.specs.Numbering.{numbers_in}
use Rattle.condensed_machine.specs.{Distinct.HaveOneForm, Machine.HaveCode}
use Rattle.condensed_machine.specs.{Losing.AreRests, Moves.AreMoves}
use Rattle.condensed_machine.proofs.{Coded.code_at_start, Noted.moves_stay, Noted.rests_stay, Numbers.hart_of_number}
use Rattle.condensed_machine.proofs.Turns.{settles_in_turn, shared_begins, numbers_within}
use Rattle.condensed_machine.proofs.machine.CondensedMachine.begin.Goals as goal
use Rattle.condensed_machine.proofs.machine.CondensedMachine.begin.Goals.{After-number_of_shared, After-first_harts}

codes : (c : After-number_of_shared) → HaveCode c.self.inside.program.image c.number_of_shared.new.shared.keys
codes c =
    let image = c.self.inside.program.image in
    c.number_of_shared.ensures.code image c.self.invariant.code
    (code_at_start image c.start-start.result c.start-start.ensures.changes)

forms : (c : After-number_of_shared) → HaveOneForm c.self.inside.program.image c.number_of_shared.new.shared.keys
forms c =
    let image = c.self.inside.program.image in
    c.number_of_shared.ensures.forms image c.self.invariant.forms (c.start-start.ensures.canonical image)

moves_first : (c : After-number_of_shared) → AreMoves c.self.inside.program c.self.inside.hart_states.keys
    c.number_of_shared.new.shared.keys c.self.inside.moves.entries
moves_first c =
    moves_stay c.self.inside.program c.self.inside.hart_states.keys c.self.inside.hart_states.keys
    c.self.inside.shared_states.keys c.number_of_shared.new.shared.keys (λ n x is. is)
    c.number_of_shared.ensures.kept c.self.inside.moves.entries c.self.invariant.moves

moves_then : (c : After-first_harts) → AreMoves c.self.inside.program c.first_harts.new.table.keys
    c.number_of_shared.new.shared.keys c.self.inside.moves.entries
moves_then c =
    moves_stay c.self.inside.program c.self.inside.hart_states.keys c.first_harts.new.table.keys
    c.self.inside.shared_states.keys c.number_of_shared.new.shared.keys c.first_harts.ensures.kept
    c.number_of_shared.ensures.kept c.self.inside.moves.entries c.self.invariant.moves

rests_then : (c : After-first_harts) → AreRests c.self.inside.program c.first_harts.new.table.keys
    c.self.inside.rests.entries
rests_then c =
    rests_stay c.self.inside.program c.self.inside.hart_states.keys c.first_harts.new.table.keys
    c.first_harts.ensures.kept c.self.inside.rests.entries c.self.invariant.rests

pub invariant_of-self : goal.invariant_of-self
invariant_of-self c = record {
  sound = c.self.invariant.sound;
  zero = c.self.invariant.zero;
  registers = c.self.invariant.registers;
  rest = c.self.invariant.rest;
  code = codes (goal.at.invariant_of-self c).After-number_of_shared;
  forms = forms (goal.at.invariant_of-self c).After-number_of_shared;
  moves = moves_first (goal.at.invariant_of-self c).After-number_of_shared;
  rests = c.self.invariant.rests;
}

pub invariant_of-self-in_err-numbers : goal.invariant_of-self-in_err-numbers
invariant_of-self-in_err-numbers c = record {
  sound = c.self.invariant.sound;
  zero = c.first_harts.ensures.zero c.self.invariant.zero;
  registers = c.first_harts.ensures.registers c.self.invariant.registers;
  rest = c.first_harts.ensures.rest c.self.invariant.rest;
  code = codes (goal.at.invariant_of-self-in_err-numbers c).After-number_of_shared;
  forms = forms (goal.at.invariant_of-self-in_err-numbers c).After-number_of_shared;
  moves = moves_then (goal.at.invariant_of-self-in_err-numbers c).After-first_harts;
  rests = rests_then (goal.at.invariant_of-self-in_err-numbers c).After-first_harts;
}

pub invariant_of-self-in_err-state : goal.invariant_of-self-in_err-state
invariant_of-self-in_err-state c = record {
  sound = c.self.invariant.sound;
  zero = c.first_harts.ensures.zero c.self.invariant.zero;
  registers = c.first_harts.ensures.registers c.self.invariant.registers;
  rest = c.first_harts.ensures.rest c.self.invariant.rest;
  code = codes (goal.at.invariant_of-self-in_err-state c).After-number_of_shared;
  forms = forms (goal.at.invariant_of-self-in_err-state c).After-number_of_shared;
  moves = moves_then (goal.at.invariant_of-self-in_err-state c).After-first_harts;
  rests = rests_then (goal.at.invariant_of-self-in_err-state c).After-first_harts;
}

pub invariant_of-self-2 : goal.invariant_of-self-2
invariant_of-self-2 c = record {
  sound = c.self.invariant.sound;
  zero = c.first_harts.ensures.zero c.self.invariant.zero;
  registers = c.first_harts.ensures.registers c.self.invariant.registers;
  rest = c.first_harts.ensures.rest c.self.invariant.rest;
  code = codes (goal.at.invariant_of-self-2 c).After-number_of_shared;
  forms = forms (goal.at.invariant_of-self-2 c).After-number_of_shared;
  moves = moves_then (goal.at.invariant_of-self-2 c).After-first_harts;
  rests = rests_then (goal.at.invariant_of-self-2 c).After-first_harts;
}

pub returns-clause-begun : goal.returns-clause-begun
returns-clause-begun c = record {
  leads = λ setup image harts.
      let p = c.self.inside.program in
      let table = c.first_harts.new.table.keys in
      let numbers = c.in_ok-numbers.field-0.numbers in
      let ways = c.in_ok-numbers.field-0.ways in
      let first = c.start-start.result in
      let shared_table = c.number_of_shared.new.shared.keys in
      let number = c.in_ok-shared.shared in
      let state = c.in_ok-state.state in
      let numbered = c.in_ok-state.ensures.numbered in
      let agrees : SharedAgrees p.image (start setup) first =
      shared_begins p setup first image c.start-start.ensures.changes c.start-start.ensures.reserved
      c.start-start.ensures.output in
      settles_in_turn p table ways numbers setup image harts c.in_ok-numbers.ensures.begun
      (record {
        harts = map (hart_at table) (numbers_in c.state_of.new.far_harts.keys state);
        shared = shared_at shared_table state.shared;
      })
      c.self.invariant.sound
      (λ h y inside has.
      let within : h < length numbers =
      omega (arith, c.in_ok-numbers.ensures.room, c.self.invariant.sound.few) in
      ap (λ all. hart_at (map (hart_at table) all) h) numbered.numbers_are
      ∙ hart_of_number table numbers h within ∙ get_or_from_slice_get table (slice_index numbers h) y no_hart has)
      (subst (λ k. SharedAgrees p.image (start setup) (shared_at shared_table k)) (sym numbered.shared_is)
      (subst (λ (shared : Shared). SharedAgrees p.image (start setup) shared)
      (sym (get_or_from_slice_get shared_table number first no_shared c.in_ok-shared.ensures.number)) agrees));
}

pub returns-clause-knows : goal.returns-clause-knows
returns-clause-knows c =
    let table = c.first_harts.new.table.keys in
    let shared_table = c.number_of_shared.new.shared.keys in
    let numbered = c.in_ok-state.ensures.numbered in
    record {
      near = numbered.near;
      room = ap length numbered.numbers_are ∙ c.in_ok-numbers.ensures.room;
      harts =
          subst (λ all. (h : ℕ) → h < length all → slice_index all h < length table) (sym numbered.numbers_are)
          (λ h inside.
          numbers_within c.self.inside.program table c.in_ok-numbers.field-0.ways
          c.in_ok-numbers.field-0.numbers c.self.invariant.sound.some c.in_ok-numbers.ensures.begun
          c.in_ok-numbers.ensures.absent h);
      absent = λ h beyond.
          ap (λ all. slice_index all h) numbered.numbers_are ∙ c.in_ok-numbers.ensures.absent h beyond;
      far = numbered.known;
      shared = subst (λ k. k < length shared_table) (sym numbered.shared_is)
          (slice_get_within shared_table c.in_ok-shared.shared c.start-start.result c.in_ok-shared.ensures.number);
      dropped = λ h lost.
          ap (λ k. reserved_at (shared_at shared_table k) h) numbered.shared_is
          ∙ ap (λ (x : Shared). reserved_at x h)
          (get_or_from_slice_get shared_table c.in_ok-shared.shared c.start-start.result no_shared
          c.in_ok-shared.ensures.number)
          ∙ c.start-start.ensures.reserved h;
    }
