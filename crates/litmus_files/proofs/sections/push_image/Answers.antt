use Rattle.litmus_files.proofs.Files.{spoken}
use Rattle.litmus_files.proofs.sections.push_image.Goals as goal

pub returns : goal.returns
returns c =
    rw (c.in_ok-extend_from_slice.ensures.items, c.in_ok-push_numbered.ensures, c.in_ok-push_begun.ensures)
    (spoken c.args.file.now.items c.args.image.now)
