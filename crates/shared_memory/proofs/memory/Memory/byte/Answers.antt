use Rattle.std.proofs.Common.{slice_index, ◌-◌, sym, ap, ◌∙◌}
use Rattle.elf_image.specs.Image.{ram_start}
use Rattle.shared_memory.specs.Contents.{Contents}
use Rattle.shared_memory.proofs.Places.{byte_there, read_within}
use Rattle.shared_memory.proofs.memory.Memory.byte.Goals as goal

pub returns : goal.returns
returns c =
    let m = c.args.self.now in
    let within = read_within m.image c.args.addr 1 c.requires in
    c.laid_byte.ensures ∙ ap (λ xs. slice_index xs c.place_of.result) c.deref.ensures.value
    ∙ ap (slice_index c.self.inside.bytes.items) c.place_of.ensures
    ∙ ap (λ (m : Contents). slice_index m.bytes (c.args.addr - ram_start)) c.self.view_is
    ∙ sym (byte_there m c.args.addr within)
