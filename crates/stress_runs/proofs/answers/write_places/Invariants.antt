use Rattle.std.proofs.Common.{take}
use Rattle.std.specs.Io.KnownBytes.{Appends}
use Rattle.text_fields.specs.Each.{each_from}
use Rattle.stress_runs.specs.Answers.{end_place}
use Rattle.stress_runs.proofs.answers.write_places.Given as goal

-- so many are written
abbrev pub invariant-loop-index : goal.invariant-loop-index
invariant-loop-index g l = Appends (g.W.Write.contents l.fn.out) (g.W.Write.contents l.out)
    (each_from (end_place l.watch l.question) 0 (take l.index l.rows))
