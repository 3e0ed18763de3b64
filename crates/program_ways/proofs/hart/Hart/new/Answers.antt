use Rattle.std.proofs.Common.{refl}
use Rattle.program_ways.proofs.Moving.{at_first}
use Rattle.program_ways.proofs.hart.Hart.new.Goals as goal

pub returns-clause-way : goal.returns-clause-way
returns-clause-way c = λ shared. at_first c.args.program.now shared _ c.requires.program c.requires.index c.new.ensures
    c.new-2.ensures.items c.new-3.ensures.items refl refl
