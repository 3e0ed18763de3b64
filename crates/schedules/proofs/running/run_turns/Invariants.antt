use Rattle.std.proofs.Common.{◌≡◌, ◌*◌, ◌≤◌, length, take, vec_capacity}
use Rattle.elf_image.specs.Image.{code_writable}
use Rattle.plain_run.specs.Orders.{OfEachSetup}
use Rattle.schedules.proofs.Stepping.{HasTurned}
use Rattle.schedules.proofs.running.run_turns.Given as goal

-- the steps below this one are made, and there is room for the records, the turns and the output of the rest
abbrev pub invariant-loop-index : goal.invariant-loop-index
invariant-loop-index l = record {
  room : l.machine.room ≡ length l.order;
  count : length l.records.items ≡ l.index;
  space : length l.order ≤ vec_capacity l.records;
  turn_count : length l.turns.items ≤ 2 * l.index;
  turn_space : 2 * length l.order ≤ vec_capacity l.turns;
  writable : l.writable ≡ code_writable l.image;
  places : length l.fetched ≡ 16;
  made : OfEachSetup l.image l.harts
      (λ setup. HasTurned setup (take l.index l.order) l.records.items l.turns.items l.fetched l.machine);
}
