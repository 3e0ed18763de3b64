use Rattle.program_ways.specs.Keeping.{AreGoing, AreKnown, AreListed}
use Rattle.program_ways.proofs.following.follow.Given as goal

abbrev pub invariant-ways : goal.invariant-ways
invariant-ways l = record {
  going : AreGoing l.asked.program.now l.asked.shared.now l.asked.index l.going.items;
  runs : AreListed l.asked.program.now l.asked.shared.now l.asked.index l.ways.runs.items;
  written : AreKnown l.asked.program.now l.asked.shared.now l.findings.known;
}
