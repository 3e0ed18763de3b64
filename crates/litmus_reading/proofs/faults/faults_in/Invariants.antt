use Rattle.std.proofs.Common.{◌≤◌, All, length}
use Rattle.litmus_words.specs.Places.{IsPlaceIn}
use Rattle.litmus_reading.specs.declared.faults.FaultAt.{FaultAt}
use Rattle.litmus_reading.proofs.faults.faults_in.Given as goal

-- so many are told, each of them at a place
abbrev pub invariant-loop-found : goal.invariant-loop-found
invariant-loop-found l = record {
  places : All (λ (it : FaultAt). IsPlaceIn l.text it.place) l.told.items;
  few : length l.told.items ≤ 10;
}
