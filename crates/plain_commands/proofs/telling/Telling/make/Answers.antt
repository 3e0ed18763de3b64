use Rattle.std.proofs.Common.{sym, subst}
use Rattle.std.specs.Prelude.{IfErr}
use Rattle.plain_commands.specs.Suite.{IsRefusedTest}
use Rattle.plain_commands.specs.declared.telling.Telling.{Telling}
use Rattle.plain_commands.specs.declared.telling.Telling.TheVariants.{Lines}
use Rattle.plain_commands.proofs.OfSuite.{lines_refused, states_refused, states_so}
use Rattle.plain_commands.proofs.telling.Telling.make.Goals as goal

pub returns-in-States-clause-made : goal.returns-in-States-clause-made
returns-in-States-clause-made g c =
    states_so c.args.text.now c.args.settings.now c.copied.result c.args.command.now c.args.self.now _
    (g.W.Write.contents c.args.out.now) (g.W.Write.contents c.perform_litmus.new.out) c.perform_litmus.result
    c.copied.ensures c.in-States.is c.perform_litmus.ensures.ended

pub returns-in-States-clause-refused : goal.returns-in-States-clause-refused
returns-in-States-clause-refused g c =
    states_refused c.args.text.now c.args.settings.now c.copied.result c.args.command.now c.args.self.now
    (g.W.Write.contents c.args.out.now) (g.W.Write.contents c.perform_litmus.new.out) c.perform_litmus.result
    c.copied.ensures c.perform_litmus.ensures.refused c.perform_litmus.ensures.unprinted

pub returns-in-Lines-clause-refused : goal.returns-in-Lines-clause-refused
returns-in-Lines-clause-refused g c =
    subst (λ (t : Telling). IfErr c.make.result (IsRefusedTest c.args.settings.now c.args.command.now c.args.text.now t
    (Lines c.make.new.self) (g.W.Write.contents c.args.out.now) (g.W.Write.contents c.make.new.out))) (sym c.in-Lines.is)
    (lines_refused c.args.text.now c.args.settings.now c.args.command.now c.in-Lines.lines c.make.new.self
    (g.W.Write.contents c.args.out.now) (g.W.Write.contents c.make.new.out) c.make.result c.make.ensures.refused)
