use Rattle.std.proofs.Common.{◌≡◌, ◌-◌, ◌++◌}
use Rattle.litmus_reading.specs.Starts.{starts_from, starts_of}
use Rattle.litmus_reading.proofs.start.starts_of.Given as goal

-- those so far, and those of the rest, are all
abbrev pub invariant-loop-register : goal.invariant-loop-register
invariant-loop-register l = l.starts.items ++ starts_from (32 - l.register) l.entries l.hart l.register
    ≡ starts_of l.entries l.hart
