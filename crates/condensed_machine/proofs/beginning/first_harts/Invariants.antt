use Rattle.std.specs.Prelude.{◌≡◌, ℕ, ◌≤◌, length, slice_index}
use Rattle.numbers.specs.Sizes.{most_harts}
use Rattle.condensed_machine.specs.{Beginning.HaveBegun, Distinct.AreAtRest, Distinct.HaveRegisters}
use Rattle.condensed_machine.specs.Machine.{HaveZero, Keeps}
use Rattle.condensed_machine.proofs.beginning.first_harts.Given as goal

-- The harts so far have begun.
abbrev pub invariant-loop-hart : goal.invariant-loop-hart
invariant-loop-hart l = record {
  ways_room : length l.first.ways ≡ most_harts;
  numbers_room : length l.first.numbers ≡ most_harts;
  kept : Keeps l.initial.table.keys l.table.keys;
  begun : HaveBegun l.program l.table.keys l.hart l.first.ways l.first.numbers;
  absent : (h : ℕ) → l.hart ≤ h → slice_index l.first.numbers h ≡ 0;
  zero : HaveZero l.initial.table.keys → HaveZero l.table.keys;
  registers : HaveRegisters l.initial.table.keys → HaveRegisters l.table.keys;
  rest : AreAtRest l.program.live l.program.watched l.initial.table.keys
      → AreAtRest l.program.live l.program.watched l.table.keys;
}
