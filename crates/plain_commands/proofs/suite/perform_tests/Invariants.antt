use Rattle.plain_commands.proofs.OfSuite.{HaveComeSo}
use Rattle.plain_commands.proofs.suite.perform_tests.Given as goal

-- the tests so far have come, and this is their worst status
abbrev pub invariant-loop-turn : goal.invariant-loop-turn
invariant-loop-turn g l = HaveComeSo g.T.TestSource.gives g.T.TestSource.hears l.settings l.command l.fn.source l.source
    l.fn.telling l.telling (g.W.Write.contents l.fn.out) (g.W.Write.contents l.out) l.status
