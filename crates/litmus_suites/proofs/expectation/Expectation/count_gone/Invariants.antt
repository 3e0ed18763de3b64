use Rattle.std.proofs.Common.{◌≡◌, ◌≤◌, count_by, not, take}
use Rattle.litmus_suites.proofs.expectation.Expectation.count_gone.Given as goal

-- so many of those so far
abbrev pub invariant-loop-line : goal.invariant-loop-line
invariant-loop-line l = (l.gone ≡ count_by (λ line. not line.is_over) (take l.line-index l.self.lines.items))
    × (l.gone ≤ l.line-index)
