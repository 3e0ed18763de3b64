use Rattle.std.proofs.Common.{arith, refl, ◌<◌, ◌^◌, slice_index_or}
use Rattle.free_list.proofs.Bits.{IsLeast-lowest, holds-none}
use Rattle.free_list.proofs.FreeList.least.Goals as goal

pub returns-then-word-ne0-clause-some : goal.returns-then-word-ne0-clause-some
returns-then-word-ne0-clause-some c =
    let word = slice_index_or c.self.inside.words c.loop-i.i 0 in
    let fits : slice_index_or c.self.inside.words c.loop-i.i 0 < 2 ^ 64 = omega arith in
    rw (← c.self.view_is)
    (IsLeast-lowest c.self.inside.words c.loop-i.i word c.self.invariant (omega arith) refl
    (omega arith) fits c.loop-i.invariant)

pub returns-clause-none : goal.returns-clause-none
returns-clause-none c =
    rw (← c.self.view_is)
    (holds-none c.self.inside.words c.self.invariant (λ k below. c.loop-i.invariant k (omega arith)))
