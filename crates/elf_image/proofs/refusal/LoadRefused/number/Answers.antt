use Rattle.std.proofs.Common.{rules}
use Rattle.elf_image.proofs.refusal.LoadRefused.number.Goals as goal

pub returns-in-SegmentsOverlap : goal.returns-in-SegmentsOverlap
returns-in-SegmentsOverlap c = search rules
