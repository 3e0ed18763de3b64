use Rattle.std.proofs.Common.{◌≡◌, take}
use Rattle.outcome_queries.specs.Watches.{registers_in, words_in}
use Rattle.outcome_queries.proofs.watching.watch_of.Given as goal

abbrev pub invariant-loop-asked : goal.invariant-loop-asked
invariant-loop-asked l = record {
  registers : l.registers.items ≡ registers_in (take l.asked-index l.list);
  words : l.words.items ≡ words_in (take l.asked-index l.list);
}
