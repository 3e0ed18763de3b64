use Rattle.core_lock.proofs.locked.LockedCore.step.Goals as goal

pub returns-clause-predicted : goal.returns-clause-predicted
returns-clause-predicted g c = c.step.ensures.stepped.predicted

pub returns-clause-step : goal.returns-clause-step
returns-clause-step g c = (
  c.deref_mut.result.now.core,
  c.step.new.self.core,
  c.step.ensures.stepped.shown.0,
  c.step.ensures.stepped.shown.1,
  c.step.ensures.origin.0,
  c.step.ensures.origin.1,
  c.step.ensures.stepped.answer,
  c.step.ensures.stepped.going,
)

pub returns-clause-maker : goal.returns-clause-maker
returns-clause-maker g c = c.step.ensures.stepped.maker

pub returns-clause-asked : goal.returns-clause-asked
returns-clause-asked g c = c.step.ensures.stepped.asked

pub returns-clause-actor : goal.returns-clause-actor
returns-clause-actor g c = c.step.ensures.stepped.actor

pub returns-clause-count : goal.returns-clause-count
returns-clause-count g c = c.step.ensures.stepped.count

pub returns-clause-last : goal.returns-clause-last
returns-clause-last g c = c.step.ensures.stepped.last

pub returns-clause-own : goal.returns-clause-own
returns-clause-own g c = c.step.ensures.stepped.own
