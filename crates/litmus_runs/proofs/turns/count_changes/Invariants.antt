use Rattle.std.proofs.Common.{◌≡◌, take, count_by}
use Rattle.litmus_runs.specs.Turns.{is_change}
use Rattle.litmus_runs.proofs.turns.count_changes.Given as goal

abbrev pub invariant-loop-access : goal.invariant-loop-access
invariant-loop-access l = l.count ≡ count_by (is_change l.has_conditionals) (take l.access-index l.accesses)
