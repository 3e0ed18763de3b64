use Rattle.std.specs.Prelude.{◌≡◌, ℕ, ◌<◌, ◌≤◌, if◌then◌else◌, slice_index}
use Rattle.condensed_machine.specs.Resting.{is_kept}
use Rattle.condensed_machine.proofs.resting.rest.Given as goal

-- The registers looked at so far have come to rest, and the others are as they were.
abbrev pub invariant-loop-register : goal.invariant-loop-register
invariant-loop-register l = record {
  pc : l.hart.pc ≡ l.initial.hart.pc;
  status : l.hart.status ≡ l.initial.hart.status;
  zero : slice_index l.hart.registers 0 ≡ slice_index l.initial.hart.registers 0;
  rested : (r : ℕ) → 0 < r → r < l.register → slice_index l.hart.registers r
      ≡ (if is_kept l.live l.watched l.pc l.is_going r then slice_index l.initial.hart.registers r else 0);
  others : (r : ℕ) → l.register ≤ r → slice_index l.hart.registers r ≡ slice_index l.initial.hart.registers r;
}
