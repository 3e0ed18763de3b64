use Rattle.std.proofs.Common.{◌+◌, ◌<◌, ap, ◌∙◌, arith, rules}
use Rattle.smt_model.specs.Faults.{read_fault}
use Rattle.changed_memory.proofs.Writing.{byte_read, written_more}
use Rattle.changed_memory.proofs.changes.write_number.Goals as goal

pub set_byte-requires : goal.set_byte-requires
set_byte-requires c =
    let image = c.args.start.now.image in
    let w = c.args.written in
    let k = c.loop-index.index in
    let inside : k < w.n = omega arith in
    ap (λ k. read_fault image (w.addr + k) 1) c.from.ensures ∙ byte_read image w.addr w.n k c.requires.no_fault inside

pub loop-index-preserved : goal.loop-index-preserved
loop-index-preserved c = search (rules, written_more)
