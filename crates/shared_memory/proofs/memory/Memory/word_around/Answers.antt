use Rattle.std.proofs.Common.{rules, ◌-◌, ◌%◌, slice_index, sym, ap, ◌∙◌, arith}
use Rattle.smt_model.specs.Bytes.{number_at}
use Rattle.shared_memory.proofs.Places.{word_there}
use Rattle.shared_memory.proofs.memory.Memory.word_around.Goals as goal

pub returns : goal.returns
returns c =
    let at = c.args.addr - c.args.addr % 4 in
    let there = word_there c.args.self.now at c.place_of.result (omega (arith, c.place_of.ensures, c.requires)) in
    let same = c.deref.ensures.value ∙ ap (λ m. m.bytes) c.self.view_is in
    c.laid_number.ensures ∙ ap (λ xs. number_at (slice_index xs) c.place_of.result 4) same ∙ sym there
