use Rattle.std.proofs.Common.{length}
use Rattle.address_labels.specs.Labels.{marks_of}
use Rattle.core_commands.proofs.OfNamedAsks.{AreNamed}
use Rattle.core_commands.proofs.named_asks.write_named.Given as goal

-- the lines so far are written
abbrev pub invariant-loop-line : goal.invariant-loop-line
invariant-loop-line g l =
    AreNamed (marks_of l.labels) (g.W.Write.contents l.fn.out) (g.W.Write.contents l.out) l.text l.left

abbrev pub decreases-loop-line : goal.decreases-loop-line
decreases-loop-line g l = length l.left
