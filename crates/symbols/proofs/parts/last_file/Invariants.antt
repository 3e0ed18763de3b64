use Rattle.std.proofs.Common.{◌≡◌, ◌≤◌}
use Rattle.symbols.specs.Parts.{last_file}
use Rattle.symbols.proofs.parts.last_file.Given as goal

abbrev pub invariant-loop-left : goal.invariant-loop-left
invariant-loop-left l = record {
  within : l.left ≤ l.count;
  same : last_file l.file l.start l.count ≡ last_file l.file l.start l.left;
}

abbrev pub decreases-loop-left : goal.decreases-loop-left
decreases-loop-left l = l.left
