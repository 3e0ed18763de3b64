use denote.Text.{Utf8}
use denote.Shadow.{shadow}
use Rattle.program_tests.proofs.commands_tests.script_lines.first_stray.Given as goal

-- what stands behind the lines so far is text
abbrev pub invariant-loop-word : goal.invariant-loop-word
invariant-loop-word l =
    (goal.iterator-loop-word).can_next l.word-iterator × (goal.iterator-loop-word).is_finite l.word-iterator × shadow (Utf8 l.rest)
