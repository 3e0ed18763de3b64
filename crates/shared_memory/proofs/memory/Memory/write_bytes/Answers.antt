use Rattle.std.proofs.Common.{ℕ, length, slice_index, sym, ap, ◌∙◌, arith}
use Rattle.std.proofs.lemmas.List.{with_items_is}
use Rattle.smt_model.specs.Bytes.{write_of, written_byte}
use Rattle.shared_memory.specs.Contents.{Contents}
use Rattle.shared_memory.proofs.Places.{byte_written, write_within}
use Rattle.shared_memory.proofs.memory.Memory.write_bytes.Goals as goal

pub returns-clause-bytes : goal.returns-clause-bytes
returns-clause-bytes c =
    let m = c.args.self.now in
    let within = write_within m.image c.args.addr c.args.n c.requires.no_fault in
    let laid = c.lay_up_to.new.bytes in
    let long = c.put_number.ensures.length ∙ ap length c.as_mut_slice.ensures.value ∙ sym laid.ok.0 in
    let before = λ (k : ℕ). ap (λ xs. slice_index xs k) c.as_mut_slice.ensures.value ∙ c.lay_up_to.ensures.bytes k
    ∙ ap (λ (m : Contents). slice_index m.bytes k) c.self.view_is in
    byte_written m _ c.args.addr c.place_of-place.result c.args.n c.args.datum
    (omega (arith, c.place_of-place.ensures, within))
    (λ k. ap (λ xs. slice_index xs k) (with_items_is laid c.put_number.new.bytes long)
    ∙ c.put_number.ensures.bytes k
    ∙ ap (written_byte (write_of c.place_of-place.result c.args.n c.args.datum) k) (before k))
