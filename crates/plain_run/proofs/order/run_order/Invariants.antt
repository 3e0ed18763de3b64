use Rattle.std.proofs.Common.{◌≡◌, ◌≤◌, length, take, vec_capacity}
use Rattle.plain_run.specs.Orders.{OfEachSetup}
use Rattle.plain_run.proofs.Running.{HasMade}
use Rattle.plain_run.proofs.order.run_order.Given as goal

-- the steps below this one are made, and there is room for the records and the output of the rest
abbrev pub invariant-loop-index : goal.invariant-loop-index
invariant-loop-index l = record {
  room : l.machine.room ≡ length l.order;
  count : length l.records.items ≡ l.index;
  space : length l.order ≤ vec_capacity l.records;
  made : OfEachSetup l.image l.harts (λ setup. HasMade setup (take l.index l.order) l.records.items l.machine);
}
