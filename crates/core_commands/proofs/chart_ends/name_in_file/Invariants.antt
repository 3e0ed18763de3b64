use Rattle.std.proofs.Common.{◌-◌, length, drop}
use Rattle.text_fields.specs.Splitting.{Lacks}
use Rattle.core_commands.proofs.chart_ends.name_in_file.Given as goal

-- no colon stands in what was looked at
abbrev pub invariant-loop-back : goal.invariant-loop-back
invariant-loop-back l = Lacks 58 (drop (length l.word - l.back) l.word)
