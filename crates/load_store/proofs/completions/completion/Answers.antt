use Rattle.std.proofs.Common.{◌∙◌, sym, ap, rules}
use Rattle.load_store.proofs.Completing.{stays, faults, looks}
use Rattle.load_store.specs.{Looks.seen, Queues.queues_of}
use Rattle.load_store.proofs.completions.completion.Goals as goal

pub returns-in_default : goal.returns-in_default
returns-in_default c = λ d is. stays c.args.memory.now.image c.args.op d c.args.outcome is (search rules) _

pub returns-in-Some-fault : goal.returns-in-Some-fault
returns-in-Some-fault c = λ d is.
    c.last_outcome.ensures
    ∙ faults c.args.memory.now.image c.args.op d c.args.outcome is c.in-Some.addr c.in-Some-fault.cause c.in-Some.is
    (sym c.fault.ensures ∙ c.in-Some-fault.is) _

pub returns : goal.returns
returns c = λ d is.
    let m = c.args.memory.now in
    let bytes = seen c.args.seq (queues_of c.args.accesses.now c.args.hart).stores m in
    ap (λ v. record c.args.outcome { value = v }) c.first_look.ensures
    ∙ looks m.image c.args.op d c.args.outcome c.in-Some.addr bytes is c.in-Some.is
    (sym c.fault.ensures ∙ (search rules))
