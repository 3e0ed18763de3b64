use Rattle.std.proofs.Common.{◌≡◌, ◌⊎◌, ◌<◌, ℕ, true, slice_index}
use Rattle.litmus_runs.specs.Turns.{is_written_anew}
use Rattle.litmus_runs.proofs.turns.has_same_registers.Given as goal

abbrev pub invariant-loop-register : goal.invariant-loop-register
invariant-loop-register l = (r : ℕ) → r < l.register → (is_written_anew l.step r ≡ true)
    ⊎ (slice_index l.before.registers r ≡ slice_index l.now.registers r)
