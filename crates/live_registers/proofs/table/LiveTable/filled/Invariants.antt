use Rattle.std.specs.Prelude.{◌≡◌, All, length}
use Rattle.live_registers.specs.Table.{IsAllAlike}
use Rattle.live_registers.proofs.table.LiveTable.filled.Given as goal

-- A row for each word so far, all of them alike.
abbrev pub invariant-loop-index : goal.invariant-loop-index
invariant-loop-index l = record {
  whole : l._index ≡ length l.rows.items;
  all : All (IsAllAlike l.live) l.rows.items;
}
