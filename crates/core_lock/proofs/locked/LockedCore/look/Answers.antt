use Rattle.core_lock.proofs.locked.LockedCore.look.Goals as goal

pub returns : goal.returns
returns g c = (
  c.deref.result.now.core,
  c.look.ensures.read.0,
  c.look.ensures.shown,
  c.look.ensures.origin.0,
  c.look.ensures.origin.1,
  c.look.ensures.read.1,
  c.look.ensures.read.2,
)
