use Rattle.std.proofs.Common.{◌≡◌, ◌⊎◌, true, vec_len, All, Contains}
use Rattle.litmus_runs.specs.declared.finding.Found.{Found}
use Rattle.litmus_runs.specs.Ways.{AreGoing, MayFind}
use Rattle.litmus_runs.specs.Work.{HasLeft, IsGoneBy}
use Rattle.litmus_runs.proofs.following.go_on_by.Given as goal

abbrev pub decreases-loop-found : goal.decreases-loop-found
decreases-loop-found l = vec_len l.all

abbrev pub invariant-loop-found : goal.invariant-loop-found
invariant-loop-found l = record {
  all : All (MayFind l.asked.known.now.held.items l.step l.from.hart) l.all.items;
  going : AreGoing l.asked.test.now l.asked.thread.now l.going.items;
  runs : l.ways.runs ≡ l.initial.ways.runs;
  whole : l.ways.is_whole ≡ true → l.initial.ways.is_whole ≡ true;
  left : HasLeft l.from.hart l.initial.going.items l.going.items;
  each : l.ways.is_whole ≡ true → (found : Found) → Contains l.initial.all.items found
      → Contains l.all.items found ⊎ IsGoneBy l.asked.has_conditionals l.asked.thread.now
      l.asked.known.now.held.items l.from l.step found l.going.items;
}
