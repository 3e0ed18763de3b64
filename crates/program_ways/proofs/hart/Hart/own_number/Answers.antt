use Rattle.std.proofs.Common.{◌≡◌, true, ◌∙◌, ap, rules}
use Rattle.rv_execute.specs.Access.{reads_memory}
use Rattle.smt_model.specs.{Faults.read_fault, Kinds.kind_of}
use Rattle.shared_memory.proofs.Checking.{can_read}
use Rattle.program_ways.proofs.hart.Hart.own_number.Goals as goal

pub number_at-requires-clause-no_fault : goal.number_at-requires-clause-no_fault
number_at-requires-clause-no_fault c =
    let image = c.args.program.now.memory.image in
    let op = c.args.op in
    let reads : reads_memory (kind_of op) ≡ true = search rules in
    ap (read_fault image c.args.address) c.access_size-size.ensures.value
    ∙ can_read image op c.args.address reads c.requires.no_fault
