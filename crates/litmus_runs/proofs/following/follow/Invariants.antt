use Rattle.std.proofs.Common.{◌≡◌, true, All}
use Rattle.litmus_runs.specs.Ways.{AreGoing, AreKnown, IsRun}
use Rattle.litmus_runs.specs.AllWays.{Grows}
use Rattle.litmus_runs.specs.Work.{AreAllButLast}
use Rattle.litmus_runs.proofs.Stack.{AreListedOrLeft, AreLearntOrLeft}
use Rattle.litmus_runs.proofs.following.follow.Given as goal

abbrev pub invariant-steps : goal.invariant-steps
invariant-steps l = record {
  going : AreGoing l.asked.test.now l.asked.thread.now l.going.items;
  runs : All (IsRun l.asked.test.now l.asked.thread.now) l.ways.runs.items;
  written : AreKnown l.asked.test.now l.written.known;
  kept : Grows l.initial.written.known l.written.known;
  listed : l.ways.is_whole ≡ true → AreListedOrLeft l.asked.has_conditionals l.asked.thread.now
      l.asked.known.now.held.items l.ways.runs.items l.going.items;
  learnt : l.ways.is_whole ≡ true → l.written.known.is_whole ≡ true → AreLearntOrLeft l.asked.has_conditionals
      l.asked.thread.now l.asked.known.now.held.items l.written.known.held.items l.going.items;
  left : l.written.known.is_whole ≡ true → AreAllButLast l.written.known.held.items l.going.items;
}
