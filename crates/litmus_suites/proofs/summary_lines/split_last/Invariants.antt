use Rattle.std.proofs.Common.{◌-◌, length, drop}
use Rattle.text_fields.specs.Splitting.{Lacks}
use Rattle.litmus_suites.proofs.summary_lines.split_last.Given as goal

-- no space stands in what was looked at
abbrev pub invariant-loop-back : goal.invariant-loop-back
invariant-loop-back l = Lacks 32 (drop (length l.text - l.back) l.text)
