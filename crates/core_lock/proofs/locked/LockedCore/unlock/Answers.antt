use Rattle.core_lock.proofs.locked.LockedCore.unlock.Goals as goal

pub returns-clause-own : goal.returns-clause-own
returns-clause-own g c = c.finish.ensures.own

pub returns-clause-idle : goal.returns-clause-idle
returns-clause-idle g c = c.finish.result.counted
