use Rattle.std.proofs.Common.{refl}
use Rattle.free_list.proofs.Bits.{holds-without_bit}
use Rattle.free_list.proofs.FreeList.take_this.Goals as goal

pub returns-then-was-clause-taken : goal.returns-then-was-clause-taken
returns-then-was-clause-taken c =
    rw (c.from.ensures, ← c.self.view_is)
    (holds-without_bit c.self.inside.words c.args.register c.self.invariant (c.if-was.ensures.range refl))
