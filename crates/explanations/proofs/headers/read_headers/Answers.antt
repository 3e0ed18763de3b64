use Rattle.std.proofs.{Common.rules, Common.arith, lemmas.Grind.common_steps}
use Rattle.elf_image.proofs.Table.{loadable_with, loadable_none}
use Rattle.explanations.proofs.headers.read_headers.Goals as goal

pub loop-i-preserved : goal.loop-i-preserved
loop-i-preserved c =
    let more = loadable_with c.args.file.now c.args.place c.loop-i.i c.args.count c.read_header-header.result
    (omega arith) (search rules) (search rules) in
    grind (arith, common_steps, more)

pub returns : goal.returns
returns c =
    let none = loadable_none c.args.file.now c.args.place c.loop-i.i c.args.count (omega arith) in
    grind (arith, common_steps, none)
