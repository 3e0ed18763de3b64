use Rattle.std.proofs.Common.{◌≡◌, ◌≤◌, length}
use Rattle.program_ways.specs.Keeping.{AreKnown, AreFollowed}
use Rattle.program_ways.proofs.gathering.gather.Given as goal

abbrev pub invariant-loop-hart : goal.invariant-loop-hart
invariant-loop-hart l = record {
  below : l.hart ≤ l.program.harts;
  count : length l.harts.items ≡ l.hart;
  runs : AreFollowed l.program l.shared l.harts.items;
  written : AreKnown l.program l.shared l.findings.known;
}
