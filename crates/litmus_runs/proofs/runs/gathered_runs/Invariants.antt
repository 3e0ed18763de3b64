use Rattle.std.proofs.Common.{◌≡◌, true}
use Rattle.litmus_runs.specs.Ways.{AreKnown}
use Rattle.litmus_runs.specs.Rounds.{HasRounds}
use Rattle.litmus_runs.proofs.runs.gathered_runs.Given as goal

abbrev pub invariant-rounds : goal.invariant-rounds
invariant-rounds l = record {
  known : AreKnown l.test l.known;
  rounds : l.known.is_whole ≡ true → HasRounds l.test l.known;
}
