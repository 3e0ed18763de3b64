use Rattle.program_ways.proofs.Listing.{learnt}
use Rattle.program_ways.proofs.known.Known.learn.Goals as goal

pub add-requires-clause-may : goal.add-requires-clause-may
add-requires-clause-may c = learnt c.args.program.now c.args.shared.now c.args.hart.now
    c.deref-access-items.result.now c.loop-access.access-index _ c.in-Some.number c.requires.way
    c.deref-access-items.ensures.value c.loop-access-test.true c.in-Some.is
