use Rattle.std.specs.Prelude.{◌≡◌, ◌≤◌}
use Rattle.smt_model.specs.{Basics.below, Basics.how_many, Fetching.may_fetch}
use Rattle.reasons.proofs.looks.fetchable.Given as goal

-- those below this hart are counted
abbrev pub invariant-loop-hart : goal.invariant-loop-hart
invariant-loop-hart l = record {
  counted : l.fetchable ≡ how_many (may_fetch l.core.past) (below l.hart);
  few : l.fetchable ≤ l.hart;
}
