use Rattle.std.proofs.Common.{vec_len, All}
use Rattle.program_ways.specs.Keeping.{AreGoing, AreKnown, AreListed, MayFind}
use Rattle.program_ways.proofs.following.share.Given as goal

abbrev pub decreases-loop-found : goal.decreases-loop-found
decreases-loop-found l = vec_len l.all

abbrev pub invariant-loop-found : goal.invariant-loop-found
invariant-loop-found l = record {
  all : All (MayFind l.asked.known.now.held.items l.sharing) l.all.items;
  going : AreGoing l.asked.program.now l.asked.shared.now l.asked.index l.going.items;
  runs : AreListed l.asked.program.now l.asked.shared.now l.asked.index l.ways.runs.items;
  written : AreKnown l.asked.program.now l.asked.shared.now l.findings.known;
}
