use Rattle.std.proofs.Common.{take, All, [], ◌++◌}
use Rattle.outcome_queries.specs.Watches.{asked_in, IsOnceBehind, IsWatchedFor}
use Rattle.outcome_queries.proofs.watching.with_terms.Given as goal

-- so much of the list is there, each once
abbrev pub invariant-loop-asked : goal.invariant-loop-asked
invariant-loop-asked l = IsOnceBehind [] (take l.asked-index l.list) l.all.items

-- the list is, and what so many terms name
abbrev pub invariant-loop-term : goal.invariant-loop-term
invariant-loop-term l = record {
  once : IsOnceBehind [] (l.list ++ asked_in (take l.term-index l.terms)) l.all.items;
  told : All (IsWatchedFor l.all.items) (take l.term-index l.terms);
}
