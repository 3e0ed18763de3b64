use Rattle.std.proofs.Common.{◌≡◌, true, ◌∙◌, ap, rules}
use Rattle.smt_model.specs.Faults.{read_fault}
use Rattle.smt_model.specs.Kinds.{kind_of, is_loading}
use Rattle.shared_memory.proofs.Checking.{can_read}
use Rattle.load_store.proofs.Checking.{loading_reads}
use Rattle.load_store.proofs.completions.first_look.Goals as goal

pub first_look-number-requires-clause-no_fault : goal.first_look-number-requires-clause-no_fault
first_look-number-requires-clause-no_fault c =
    let m = c.args.memory.now in
    let op = c.args.op in
    let loads : is_loading (kind_of op) ≡ true = search rules in
    ap (read_fault m.image c.args.addr) c.access_size.ensures.value
    ∙ can_read m.image op c.args.addr (loading_reads (kind_of op) loads) c.requires.no_fault
