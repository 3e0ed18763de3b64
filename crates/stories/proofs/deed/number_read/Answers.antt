use Rattle.std.proofs.Common.{ap, ◌∙◌}
use Rattle.smt_model.specs.{Faults.read_fault}
use Rattle.shared_memory.proofs.Checking.{can_read}
use Rattle.stories.proofs.deed.number_read.Goals as goal

pub read-requires-clause-no_fault : goal.read-requires-clause-no_fault
read-requires-clause-no_fault c =
    let m = c.args.memory.now in
    let op = c.args.op in
    ap (read_fault m.image c.args.addr) c.access_size.ensures.value
    ∙ can_read m.image op c.args.addr c.requires.reads c.requires.no_fault
