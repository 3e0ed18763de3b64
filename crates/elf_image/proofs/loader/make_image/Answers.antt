use Rattle.elf_image.specs.Image.{IsRamSize}
use Rattle.elf_image.proofs.Loading.{good, well_formed, is_image}
use Rattle.elf_image.proofs.loader.make_image.Goals as goal

pub read_segments-requires-clause-in_file : goal.read_segments-requires-clause-in_file
read_segments-requires-clause-in_file c k d below =
    (good c.args.file.now c.args.ram c.args.order.now c.requires.passed c.requires.all c.requires.rising k d
    below).in_file

pub read_segments-requires-clause-in_memory : goal.read_segments-requires-clause-in_memory
read_segments-requires-clause-in_memory c k d below =
    (good c.args.file.now c.args.ram c.args.order.now c.requires.passed c.requires.all c.requires.rising k d
    below).sized

pub new-requires : goal.new-requires
new-requires c =
    let size : IsRamSize c.args.ram = rw c.bytes-size.ensures.value at c.bytes-size.ensures.valid in
    rw (c.requires.entry, c.in_ok-segments.ensures)
    (well_formed c.args.file.now c.args.ram c.args.order.now c.requires.passed c.requires.all c.requires.rising size)

pub returns : goal.returns
returns c =
    rw (c.new.ensures, c.requires.entry, c.in_ok-segments.ensures)
    (is_image c.args.file.now c.args.ram c.args.order.now c.requires.passed c.requires.all c.requires.rising)
