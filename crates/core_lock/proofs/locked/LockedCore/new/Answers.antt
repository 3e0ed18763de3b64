use Rattle.core_lock.proofs.locked.LockedCore.new.Goals as goal

pub returns-clause-actors : goal.returns-clause-actors
returns-clause-actors g c = c.new-held.ensures.actors

pub returns-clause-counts : goal.returns-clause-counts
returns-clause-counts g c = c.new-held.ensures.counts

pub returns-clause-lasts : goal.returns-clause-lasts
returns-clause-lasts g c = c.new-held.ensures.lasts
