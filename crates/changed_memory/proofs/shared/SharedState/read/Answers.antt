use Rattle.std.proofs.Common.{◌≡◌, true, ◌∙◌, ap, rules}
use Rattle.rv_execute.specs.Access.{reads_memory}
use Rattle.smt_model.specs.{Faults.read_fault, Kinds.kind_of}
use Rattle.shared_memory.proofs.Checking.{can_read}
use Rattle.changed_memory.proofs.shared.SharedState.read.Goals as goal

pub number-requires-clause-no_fault : goal.number-requires-clause-no_fault
number-requires-clause-no_fault c =
    let image = c.args.start.now.image in
    let op = c.args.op in
    let reads : reads_memory (kind_of op) ≡ true = search rules in
    ap (read_fault image c.args.addr) c.access_size.ensures.value
    ∙ can_read image op c.args.addr reads c.requires.no_fault
