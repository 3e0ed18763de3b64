use Rattle.std.proofs.Common.{slice_index, sym, ap, ◌∙◌, arith}
use Rattle.smt_model.specs.Bytes.{number_at}
use Rattle.shared_memory.proofs.Places.{number_there, read_within}
use Rattle.shared_memory.proofs.memory.Memory.read.Goals as goal

pub returns : goal.returns
returns c =
    let m = c.args.self.now in
    let within = read_within m.image c.args.addr c.args.n c.requires.no_fault in
    let there = number_there m c.args.addr c.place_of.result c.args.n (omega (arith, c.place_of.ensures, within)) in
    let same = c.deref.ensures.value ∙ ap (λ m. m.bytes) c.self.view_is in
    c.laid_number.ensures ∙ ap (λ xs. number_at (slice_index xs) c.place_of.result c.args.n) same ∙ sym there
