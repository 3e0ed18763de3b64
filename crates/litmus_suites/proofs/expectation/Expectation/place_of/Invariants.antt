use Rattle.std.proofs.Common.{◌≡◌, ◌+◌, drop}
use Rattle.std.specs.List.{position_or_len}
use Rattle.litmus_suites.specs.Expecting.{meets}
use Rattle.litmus_suites.proofs.expectation.Expectation.place_of.Given as goal

-- the place is as far on as the loop has come
abbrev pub invariant-loop-place : goal.invariant-loop-place
invariant-loop-place l = l.place + position_or_len (meets l.name) (drop l.place l.self.lines.items)
    ≡ position_or_len (meets l.name) l.self.lines.items
