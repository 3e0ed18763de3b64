use Rattle.std.specs.Prelude.{◌≡◌, ℕ, ◌<◌, true, false, ◌==◌}
use Rattle.std.specs.List.{slice_index_or}
use Rattle.rv_instr.specs.Kinds.{destination}
use Rattle.outcome_laws.specs.Tables.{reads_register}
use Rattle.live_registers.specs.{Table.live_of, Targets.allows, Onward.goes}
use Rattle.live_registers.proofs.checking.is_row_good.Given as goal

-- The registers looked at so far are live in the row where they have to be.
abbrev pub invariant-loop-register : goal.invariant-loop-register
invariant-loop-register l = record {
  reads : (r : ℕ) → 0 < r → r < l.register → reads_register l.op r ≡ true
      → slice_index_or l.row.live r false ≡ true;
  stays : (to r : ℕ) → 0 < r → r < l.register → goes (allows l.targets) l.op l.pc to ≡ true
      → live_of l.table to r ≡ true → (r == destination l.op) ≡ false
      → slice_index_or l.row.live r false ≡ true;
}
