use Rattle.std.specs.Prelude.{◌≡◌, ◌≤◌}
use Rattle.smt_model.specs.{Basics.below, Basics.how_many, Memory.is_going}
use Rattle.smt_core.proofs.calls.Core.going.Given as goal

-- those below this hart are counted
abbrev pub invariant-loop-hart : goal.invariant-loop-hart
invariant-loop-hart l = record {
  counted : l.going ≡ how_many (is_going l.self.past) (below l.hart);
  few : l.going ≤ l.hart;
}
