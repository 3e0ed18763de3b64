use Rattle.std.proofs.Common.{arith, sym, ◌∙◌}
use Rattle.free_list.proofs.Bits.{holds-flags, holds-read, is_set_past}
use Rattle.free_list.proofs.FreeList.holds.Goals as goal

pub returns-in-Some-clause-value : goal.returns-in-Some-clause-value
returns-in-Some-clause-value c =
    rw (← c.self.view_is)
    (holds-read c.self.inside.words c.args.register c.from.result c.in-Some.word.now c.self.invariant c.from.ensures
    (c.in-Some.ensures.lookup.3.1 0))

pub returns-in-None-clause-value : goal.returns-in-None-clause-value
returns-in-None-clause-value c =
    rw (← c.self.view_is)
    (sym (holds-flags c.self.inside.words c.args.register c.self.invariant
    ∙ is_set_past c.self.inside.words c.args.register (omega (arith, c.in-None.ensures.lookup.3))))
