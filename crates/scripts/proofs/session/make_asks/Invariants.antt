use Rattle.std.specs.Prelude.{take}
use Rattle.std.specs.Io.KnownBytes.{append_known}
use Rattle.scripts.specs.Session.{AllAct, HasReplied, PrintsGuessed, actions_of}
use Rattle.scripts.proofs.session.make_asks.Given as goal

-- the words so far were made
abbrev pub invariant-loop-word : goal.invariant-loop-word
invariant-loop-word g l =
    PrintsGuessed g.P.Predict.predicts l.fn.session.core.core l.session.core.core l.fn.predict l.predict
    (g.W.Write.contents l.fn.out)
    (append_known (g.W.Write.contents l.out) l.lines.bytes)
    (AllAct HasReplied (actions_of (take l.word-index l.words)) l.fn.session.hands.held l.session.hands.held
    l.fn.session.core l.session.core)
