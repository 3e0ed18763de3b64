use Rattle.std.specs.List.{AllZip}
use Rattle.std.proofs.Common.{take}
use Rattle.litmus_runs.specs.Ways.{AreKnown, AreRunsOf}
use Rattle.litmus_runs.specs.AllWays.{Grows}
use Rattle.litmus_runs.specs.Rounds.{IsTold}
use Rattle.litmus_runs.proofs.runs.gather.Given as goal

abbrev pub invariant-loop-index : goal.invariant-loop-index
invariant-loop-index l = record {
  runs : AllZip (AreRunsOf l.test) (take l.index l.test.threads.items) l.harts.items;
  written : AreKnown l.test l.written.known;
  kept : Grows l.known l.written.known;
  told : AllZip (IsTold l.test l.known.held.items l.written.known) (take l.index l.test.threads.items) l.harts.items;
}
