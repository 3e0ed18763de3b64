use Rattle.std.proofs.Common.{take}
use Rattle.std.specs.Io.KnownBytes.{Appends}
use Rattle.text_fields.specs.Each.{each_from}
use Rattle.outcome_text.specs.{Answers.place_text}
use Rattle.outcome_text.proofs.answers.write_places.Given as goal

-- so many are written
abbrev pub invariant-loop-index : goal.invariant-loop-index
invariant-loop-index g l = Appends (g.W.Write.contents l.fn.out) (g.W.Write.contents l.out)
    (each_from (place_text l.watch l.question) 0 (take l.index l.outcomes.listed))
