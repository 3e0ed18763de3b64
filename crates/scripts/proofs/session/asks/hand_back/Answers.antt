use Rattle.std.specs.Prelude.{Some}
use Rattle.std.proofs.Common.{refl, sym, ◌∙◌}
use Rattle.scripts.proofs.Sessions.{back_asked, back_none}
use Rattle.scripts.proofs.session.asks.hand_back.Goals as goal

pub returns-in_default : goal.returns-in_default
returns-in_default g c =
    back_none g.P.Predict.predicts c.args.actor _ _ _ _ _ _ (Some c.args.lines.now.bytes)
    (Some c.push_str.new.self.bytes) (sym c.take.ensures.taken ∙ c.in_default.is) c.take.ensures.left refl refl
    c.push_str.ensures.bytes

pub returns : goal.returns
returns g c =
    back_asked g.P.Predict.predicts c.args.actor _ _ c.in-Some.done _ _ _ _ _ _
    (sym c.take.ensures.taken ∙ c.in-Some.is) c.take.ensures.left c.ask_plainly.ensures
