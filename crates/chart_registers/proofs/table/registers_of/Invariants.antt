use Rattle.std.proofs.Common.{◌≡◌, reverse, take}
use Rattle.chart_registers.specs.Registers.{AreRegisters}
use Rattle.chart_registers.specs.Finding.{AreHolders, HasRoom}
use Rattle.chart_registers.proofs.table.registers_of.Given as goal

-- the core has followed the events so far, and both tables are those of these
abbrev pub invariant-loop-index : goal.invariant-loop-index
invariant-loop-index l = record {
  core : l.core ≡ record l.initial.core { past = reverse (take l.index l.events) };
  holders : AreHolders (reverse (take l.index l.events)) l.holders.items;
  room : HasRoom l.initial.core.setup l.holders.items;
  table : AreRegisters (reverse (take l.index l.events)) l.table.items;
}
