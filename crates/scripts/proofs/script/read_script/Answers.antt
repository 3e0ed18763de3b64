use Rattle.std.proofs.Common.{arith}
use Rattle.scripts.proofs.Reading.{read_more, misspelled, all_in_range}
use Rattle.scripts.specs.Script.{SpellsWord}
use Rattle.scripts.proofs.script.read_script.Goals as goal

pub returns-in_default-read_word-clause-misspelled : goal.returns-in_default-read_word-clause-misspelled
returns-in_default-read_word-clause-misspelled c =
    misspelled _ _ _ _ _ _ c.loop-piece.invariant c.in-Some.ensures.found
    (omega arith) c.in_default-read_word.ensures.only

pub loop-piece-preserved : goal.loop-piece-preserved
loop-piece-preserved c =
    rw c.in_ok-push.ensures.items
    (read_more SpellsWord _ _ _ _ _ _ c.loop-piece.invariant c.in-Some.ensures.found c.in-Some-read_word.ensures.found)

pub returns-clause-in_range : goal.returns-clause-in_range
returns-clause-in_range c = all_in_range c.loop-piece.invariant.done _ c.loop-piece.invariant.spelled
