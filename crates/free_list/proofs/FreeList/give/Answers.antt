use Rattle.free_list.proofs.Bits.{holds-with_bit}
use Rattle.free_list.proofs.FreeList.give.Goals as goal

pub returns : goal.returns
returns c = rw (c.from.ensures, ← c.self.view_is)
    (holds-with_bit c.self.inside.words c.args.register c.self.invariant c.requires.range)
