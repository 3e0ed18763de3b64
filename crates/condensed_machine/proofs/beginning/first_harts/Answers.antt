use Rattle.std.proofs.Common.{◌≡◌, ℕ, ◌+◌, ◌<◌, ◌≤◌, length, sym, subst, ◌∙◌, arith}
use Rattle.std.specs.Prelude.{true, slice_set, slice_index}
use Rattle.std.proofs.lemmas.List.{length-set}
use Rattle.condensed_machine.specs.Beginning.{HaveBegun}
use Rattle.condensed_machine.proofs.Starting.{begun_more, absent_more}
use Rattle.condensed_machine.proofs.{Distinct.at_rest, Zero.zero_rests}
use Rattle.condensed_machine.proofs.beginning.first_harts.Goals as goal

pub returns-in_err-first-clause-zero : goal.returns-in_err-first-clause-zero
returns-in_err-first-clause-zero c = λ before.
    c.number_hart.ensures.zero (c.loop-hart.invariant.zero before)
    (zero_rests c.args.program.now true c.first_hart-state.result c.come_to_rest.new.state c.come_to_rest.result
    c.come_to_rest.ensures (c.first_hart-state.ensures.registers 0))

pub returns-in_err-first-clause-rest : goal.returns-in_err-first-clause-rest
returns-in_err-first-clause-rest c = λ before.
    let p = c.args.program.now in
    c.number_hart.ensures.rest p.live p.watched (c.loop-hart.invariant.rest before)
    (at_rest p true c.first_hart-state.result c.come_to_rest.new.state c.come_to_rest.result c.come_to_rest.ensures)

pub loop-hart-preserved : goal.loop-hart-preserved
loop-hart-preserved c =
    let p = c.args.program.now in
    let h = c.loop-hart.hart in
    let old = c.loop-hart.table.keys in
    let new = c.number_hart.new.harts.keys in
    let ways = c.loop-hart.first.ways in
    let numbers = c.loop-hart.first.numbers in
    let way = c.come_to_rest.result in
    let number = c.in_ok-first.field-0 in
    let in_ways : h < length ways =
    omega (arith, c.loop-hart.invariant.ways_room, c.loop-hart-test.true, c.harts-hart-end.ensures.few) in
    let in_numbers : h < length numbers =
    omega (arith, c.loop-hart.invariant.numbers_room, c.loop-hart-test.true, c.harts-hart-end.ensures.few) in
    record {
      ways_room = length-set ways c.from.result way ∙ c.loop-hart.invariant.ways_room;
      numbers_room = length-set numbers c.from-in-loop-hart.result number ∙ c.loop-hart.invariant.numbers_room;
      kept = λ n x is. c.number_hart.ensures.kept n x (c.loop-hart.invariant.kept n x is);
      begun =
          subst (λ (k : ℕ). HaveBegun p new (h + 1) (slice_set ways k way)
          (slice_set numbers c.from-in-loop-hart.result number)) (sym c.from.ensures)
          (subst (λ (k : ℕ). HaveBegun p new (h + 1) (slice_set ways h way) (slice_set numbers k number))
          (sym c.from-in-loop-hart.ensures)
          (begun_more p old new h way number ways numbers in_ways in_numbers c.loop-hart.invariant.begun
          c.number_hart.ensures.kept
          (record {
            first = c.first_hart-state.result;
            is_first = c.first_hart-state.ensures;
            hart = c.come_to_rest.new.state;
            rests = c.come_to_rest.ensures;
            has = c.in_ok-first.ensures.number;
          })));
      absent =
          subst (λ (k : ℕ). (g : ℕ) → h + 1 ≤ g → slice_index (slice_set numbers k number) g ≡ 0)
          (sym c.from-in-loop-hart.ensures) (absent_more h number numbers c.loop-hart.invariant.absent);
      zero = λ before.
          c.number_hart.ensures.zero (c.loop-hart.invariant.zero before)
          (zero_rests p true c.first_hart-state.result c.come_to_rest.new.state way c.come_to_rest.ensures
          (c.first_hart-state.ensures.registers 0));
      rest = λ before.
          c.number_hart.ensures.rest p.live p.watched (c.loop-hart.invariant.rest before)
          (at_rest p true c.first_hart-state.result c.come_to_rest.new.state way c.come_to_rest.ensures);
      registers = λ before. c.number_hart.ensures.registers (c.loop-hart.invariant.registers before);
    }
