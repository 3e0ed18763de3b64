use Rattle.std.proofs.Common.{◌≡◌, ◌++◌, map, take, drop}
use Rattle.issue_queue.specs.Entry.{woken_source}
use Rattle.issue_queue.proofs.entry.wake_sources.Given as goal

abbrev pub invariant-loop-source : goal.invariant-loop-source
invariant-loop-source l = l.sources ≡ map (woken_source l.register l.value) (take l.source-index l.initial.sources)
    ++ drop l.source-index l.initial.sources
