use Rattle.std.proofs.Common.{◌≡◌, true, ◌∙◌, ap, rules}
use Rattle.rv_execute.specs.Access.{reads_memory}
use Rattle.smt_model.specs.{Faults.read_fault, Kinds.kind_of}
use Rattle.shared_memory.proofs.Checking.{can_read}
use Rattle.shared_memory.proofs.accesses.read.Goals as goal

pub read-requires-clause-no_fault : goal.read-requires-clause-no_fault
read-requires-clause-no_fault c =
    let m = c.args.memory.now in
    let op = c.args.op in
    let reads : reads_memory (kind_of op) ≡ true = search rules in
    ap (read_fault m.image c.args.addr) c.access_size.ensures.value
    ∙ can_read m.image op c.args.addr reads c.requires
