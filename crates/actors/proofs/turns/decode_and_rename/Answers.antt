use Rattle.std.proofs.Common.{subst}
use Rattle.actors.specs.Turns.{Asks}
use Rattle.core_lock.specs.declared.ask.Ask.TheVariants as ask
use Rattle.actors.proofs.turns.decode_and_rename.Goals as goal

pub returns-clause-asked : goal.returns-clause-asked
returns-clause-asked g c = (
  c.make-decoded.result,
  record { count = c.make-decoded.new.pass.count; last = c.make-decoded.new.pass.last },
  c.make-renamed.result,
  c.make-decoded.ensures.asked,
  subst (λ k. Asks g.L.Origin.setup g.L.Origin.limit k (ask.Rename c.args.hart)
      (record { count = c.make-decoded.new.pass.count; last = c.make-decoded.new.pass.last })
      c.make-renamed.result
      (record { count = c.make-renamed.new.pass.count; last = c.make-renamed.new.pass.last }))
      c.make-decoded.ensures.actor c.make-renamed.ensures.asked,
  c.then.ensures,
)
