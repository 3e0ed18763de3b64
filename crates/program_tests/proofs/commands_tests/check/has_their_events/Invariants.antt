use denote.Text.{Utf8}
use denote.Shadow.{shadow}
use Rattle.program_tests.proofs.commands_tests.check.has_their_events.Given as goal

-- what stands behind the events so far is text
abbrev pub invariant-loop-line : goal.invariant-loop-line
invariant-loop-line l =
    (goal.iterator-loop-line).can_next l.line-iterator × (goal.iterator-loop-line).is_finite l.line-iterator × shadow (Utf8 l.rest)
