use Rattle.std.specs.Prelude.{replicate}
use Rattle.std.specs.Io.KnownBytes.{append_known}
use Rattle.scripts.specs.Session.{AllAct, HasReplied, PrintsGuessed}
use Rattle.scripts.proofs.session.repeat_action.Given as goal

-- the action was made so often
abbrev pub invariant-loop-turn : goal.invariant-loop-turn
invariant-loop-turn g l =
    PrintsGuessed g.P.Predict.predicts l.fn.session.core.core l.session.core.core l.fn.predict l.predict
    (append_known (g.W.Write.contents l.fn.out) l.fn.lines.bytes)
    (append_known (g.W.Write.contents l.out) l.lines.bytes)
    (AllAct HasReplied (replicate l.turn l.word.action) l.fn.session.hands.held l.session.hands.held
    l.fn.session.core l.session.core)
