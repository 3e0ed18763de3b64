use Rattle.std.proofs.Common.{arith}
use Rattle.std.proofs.lemmas.Option.{slice_get-get_or}
use Rattle.core_lock.proofs.tally.tally_at.Goals as goal

pub returns : goal.returns
returns c = λ past are.
    rw c.event_at.ensures
    (are c.args.actor _ (slice_get-get_or c.args.made.now c.args.actor _ (omega (arith, c.requires, c.told-made))))
