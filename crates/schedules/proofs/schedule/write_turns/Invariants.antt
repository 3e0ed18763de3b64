use Rattle.std.proofs.Common.{take, flat_map}
use Rattle.std.specs.Io.KnownBytes.{Appends}
use Rattle.scripts.specs.Lines.{line_text}
use Rattle.schedules.specs.Turns.{turn_lines}
use Rattle.schedules.proofs.schedule.write_turns.Given as goal

-- the turns so far are written
abbrev pub invariant-loop-turn : goal.invariant-loop-turn
invariant-loop-turn g l = Appends (g.W.Write.contents l.fn.out) (g.W.Write.contents l.out)
    (flat_map line_text (turn_lines l.units (take l.turn-index l.turns)))
