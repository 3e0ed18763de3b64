use Rattle.std.proofs.{Common.rules, Common.arith, lemmas.Grind.common_steps}
use Rattle.elf_image.proofs.Table.{loadable_with, loadable_none, one_too_many}
use Rattle.elf_image.proofs.program_header.read_loadable.Goals as goal

pub returns-then-is_full-clause-none : goal.returns-then-is_full-clause-none
returns-then-is_full-clause-none c =
    let more = loadable_with c.args.file.now c.args.place c.loop-i.i c.args.count c.read_header-header.result
    (omega arith) (search rules) (search rules) in
    one_too_many _ _ _ _ (search rules) (rw more at c.loop-i.invariant)

pub loop-i-preserved : goal.loop-i-preserved
loop-i-preserved c =
    let more = loadable_with c.args.file.now c.args.place c.loop-i.i c.args.count c.read_header-header.result
    (omega arith) (search rules) (search rules) in
    grind (arith, common_steps, more)

pub returns-clause-some : goal.returns-clause-some
returns-clause-some c =
    let none = loadable_none c.args.file.now c.args.place c.loop-i.i c.args.count (omega arith) in
    grind (arith, common_steps, none)
