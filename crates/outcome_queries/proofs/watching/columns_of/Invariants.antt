use Rattle.std.proofs.Common.{◌≡◌, take}
use Rattle.outcome_queries.specs.Watches.{memory_asked, registers_asked}
use Rattle.outcome_queries.proofs.watching.columns_of.Given as goal

abbrev pub invariant-loop-asked : goal.invariant-loop-asked
invariant-loop-asked l = record {
  registers : l.registers.items ≡ registers_asked (take l.asked-index l.list);
  words : l.words.items ≡ memory_asked (take l.asked-index l.list);
}
