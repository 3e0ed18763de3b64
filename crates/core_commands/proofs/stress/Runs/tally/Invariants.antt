use Rattle.std.proofs.Common.{◌≡◌, false, true}
use Rattle.symbols.specs.Tables.{table_of}
use Rattle.core_commands.specs.Stress.{HasTallied, AreEndsWritten}
use Rattle.core_commands.specs.Making.{AreMade, LeavesCore}
use Rattle.core_commands.proofs.stress.Runs.tally.Given as goal

-- so many runs are made and counted, and where that is wanted their ends are kept
abbrev pub invariant-loop-run : goal.invariant-loop-run
invariant-loop-run g l = record {
  callable : goal.M-IsAlwaysCallable g l.make_run;
  tallied : HasTallied l.self.settings.now l.self.image.now l.self.watch.now
      (AreMade (LeavesCore (goal.M-step g)) l.fn.make_run l.make_run)
      (AreEndsWritten g.F.EndFiles.begins g.F.Sink.written g.F.Sink.has_failed l.fn.files l.files l.keep
      (table_of l.self.names.now) l.self.watch.now) l._run l.tally;
  works : g.F.Sink.has_failed l.files ≡ false;
  finished : g.F.EndFiles.is_finished l.files ≡ true;
  unwanted : l.keep ≡ false → l.files ≡ l.fn.files;
}
