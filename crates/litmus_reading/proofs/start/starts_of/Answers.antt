use Rattle.litmus_reading.proofs.Entries.{no_start_more, one_start_more}
use Rattle.litmus_reading.proofs.start.starts_of.Goals as goal

pub loop-register-preserved : goal.loop-register-preserved
loop-register-preserved c =
    one_start_more _ _ _ _ _ _ c.loop-register-test.true c.loop-register.invariant c.in_ok-add_start.ensures.added

pub returns-clause-starts : goal.returns-clause-starts
returns-clause-starts c =
    no_start_more _ _ _ _ _ c.loop-register-test.false c.loop-register.invariant
