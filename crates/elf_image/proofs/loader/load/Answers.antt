use Rattle.elf_image.proofs.loader.load.Goals as goal

pub make_image-requires-clause-entry : goal.make_image-requires-clause-entry
make_image-requires-clause-entry c = c.in_ok-header.ensures.entry
