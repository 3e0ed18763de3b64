use Rattle.std.proofs.Common.{◌≡◌, true, take}
use Rattle.std.specs.List.{list_all}
use Rattle.outcomes.specs.Collected.{is_zero}
use Rattle.outcomes.proofs.unwritten.is_unwritten.Given as goal

-- 0 is there in the states before this one
abbrev pub invariant-loop-place : goal.invariant-loop-place
invariant-loop-place l = list_all (is_zero l.machine l.bytes) (take l.place l.search.states) ≡ true
