use Rattle.std.proofs.Common.{ap, sym}
use Rattle.prompts.specs.{Kept.kept_in, Session.standing_of}
use Rattle.prompts.proofs.Following.{shows, charts, helps, explains, undoes, quits}
use Rattle.prompts.proofs.session.Session.follow.Goals as goal

pub returns-in-Undo-clause-done : goal.returns-in-Undo-clause-done
returns-in-Undo-clause-done g c =
    undoes c.undo.result c.args.command c.args.self.now c.undo.new.self c.in-Undo.is c.undo.ensures.done
    c.undo.ensures.silent

pub returns-in-Show-clause-done : goal.returns-in-Show-clause-done
returns-in-Show-clause-done g c =
    shows c.tables_of.result c.args.command (standing_of c.args.self.now) c.in-Show.is c.tables_of.ensures

pub returns-in-Why-clause-done : goal.returns-in-Why-clause-done
returns-in-Why-clause-done g c =
    explains c.explained.result c.args.command (standing_of c.args.self.now) c.as_slice.result.now c.in-Why.is
    (ap kept_in (sym c.as_slice.ensures.value)) c.explained.ensures

pub returns-in-Chart-clause-done : goal.returns-in-Chart-clause-done
returns-in-Chart-clause-done g c =
    charts c.chart_of.result c.args.command (standing_of c.args.self.now) c.in-Chart.is c.chart_of.ensures

pub returns-in-Help-clause-done : goal.returns-in-Help-clause-done
returns-in-Help-clause-done g c =
    helps c.help.result c.args.command (standing_of c.args.self.now) c.in-Help.is c.help.ensures

pub returns-in-Quit-clause-done : goal.returns-in-Quit-clause-done
returns-in-Quit-clause-done g c = quits c.args.command (standing_of c.args.self.now) _ c.in-Quit.is c.new.ensures.items
