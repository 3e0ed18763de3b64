use Rattle.std.proofs.Common.{subst, sym}
use Rattle.issue_queue.specs.Queue.{AreEntriesRising}
use Rattle.issue_queue.proofs.Slots.{rising}
use Rattle.issue_queue.proofs.slab_queue.SlabQueue.rising.Goals as goal

pub returns-clause-rising : goal.returns-clause-rising
returns-clause-rising c =
    subst AreEntriesRising (sym c.rising_of.ensures)
    (rising c.self.inside.parts.entries c.self.invariant.sound.apart)
