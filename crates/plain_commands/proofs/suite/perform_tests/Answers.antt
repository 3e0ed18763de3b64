use Rattle.litmus_suites.specs.Sources.{text_of}
use Rattle.plain_commands.proofs.OfSuite.{one_more}
use Rattle.plain_commands.proofs.suite.perform_tests.Goals as goal

pub loop-turn-preserved : goal.loop-turn-preserved
loop-turn-preserved g c =
    one_more g.T.TestSource.gives g.T.TestSource.hears c.args.settings.now c.args.command.now c.args.source.now c.loop-turn.source
    c.next.new.self c.perform_given.new.source c.args.telling.now c.loop-turn.telling c.perform_given.new.telling
    (g.W.Write.contents c.args.out.now) (g.W.Write.contents c.loop-turn.out) (g.W.Write.contents c.perform_given.new.out)
    (text_of c.in-Some.given) c.loop-turn.status c.in-Ok.came c.worse-status.result c.loop-turn.invariant
    c.in-Some.ensures c.in-Ok.ensures.comes c.worse-status.ensures
