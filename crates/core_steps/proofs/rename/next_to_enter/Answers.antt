use Rattle.std.proofs.Common.{◌≡◌, ◌<◌, ◌∙◌, Some, length, sym, arith, rules}
use Rattle.std.proofs.lemmas.Bool.Decides.{nat_tests}
use Rattle.numbers.specs.Sizes.{most_in_flight}
use Rattle.smt_model.specs.Basics.{first}
use Rattle.core_steps.proofs.Steps.Rename.Counts.{may_enter, may_not_enter, no_place}
use Rattle.core_steps.proofs.rename.next_to_enter.Goals as goal
use Rattle.core_steps.proofs.rename.next_to_enter.Goals.{then-is_full-via-then-is_full, then-is_full-via-else-is_full+then-has_full_memory_queue}

pub returns-then-is_full-clause-none : goal.returns-then-is_full-clause-none
returns-then-is_full-clause-none c = λ are slot can.
    let x = c.args.state.now in
    let oldest : first x.rename_latch.items ≡ Some c.in_ok-slot.field-0.now = search rules in
    elim c.then-is_full.branch [
      | then-is_full-via-then-is_full w ↦
          no_place (length x.active) c.is_full.result c.is_full.ensures.value w.if-is_full.true can.room
      | then-is_full-via-else-is_full+then-has_full_memory_queue w ↦
          may_not_enter c.args.accesses.now c.args.hart x are c.in_ok-slot.field-0.now oldest
          (sym w.has_full_memory_queue.ensures ∙ w.if-has_full_memory_queue.true) slot can
    ]

pub returns-clause-some : goal.returns-clause-some
returns-clause-some c = λ are.
    let x = c.args.state.now in
    let oldest : first x.rename_latch.items ≡ Some c.in_ok-slot.field-0.now = search rules in
    let room : length x.active < most_in_flight = grind (arith, nat_tests) in
    may_enter c.args.accesses.now c.args.hart x are c.in_ok-slot.field-0.now oldest room
    (sym c.has_full_memory_queue.ensures ∙ c.if-has_full_memory_queue.false)
