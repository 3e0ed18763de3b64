use Rattle.std.proofs.Common.{refl}
use Rattle.core_lock.specs.declared.ask.Ask.TheVariants as ask
use Rattle.scripts.proofs.Sessions.{acts_as, holds_still}
use Rattle.scripts.proofs.session.act.Goals as goal

pub returns-in-Fetch : goal.returns-in-Fetch
returns-in-Fetch g c =
    acts_as g.P.Predict.predicts _ _ c.in-Fetch.is _ _ _ _ _ _ _ _
    (holds_still g.P.Predict.predicts c.in-Fetch.actor ask.Fetch _ _ _ _ _ _ _ _ refl c.fetch.ensures)

pub returns-in-Decode : goal.returns-in-Decode
returns-in-Decode g c =
    acts_as g.P.Predict.predicts _ _ c.in-Decode.is _ _ _ _ _ _ _ _
    (holds_still g.P.Predict.predicts c.in-Decode.actor (ask.Decode c.in-Decode.hart) _ _ _ _ _ _ _ _ refl
    c.decode.ensures)

pub returns-in-Rename : goal.returns-in-Rename
returns-in-Rename g c =
    acts_as g.P.Predict.predicts _ _ c.in-Rename.is _ _ _ _ _ _ _ _
    (holds_still g.P.Predict.predicts c.in-Rename.actor (ask.Rename c.in-Rename.hart) _ _ _ _ _ _ _ _ refl
    c.rename.ensures)

pub returns-in-Retire : goal.returns-in-Retire
returns-in-Retire g c =
    acts_as g.P.Predict.predicts _ _ c.in-Retire.is _ _ _ _ _ _ _ _
    (holds_still g.P.Predict.predicts c.in-Retire.actor (ask.Retire c.in-Retire.hart) _ _ _ _ _ _ _ _ refl
    c.retire.ensures)
