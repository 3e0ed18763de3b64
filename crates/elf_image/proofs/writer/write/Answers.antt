use Rattle.std.proofs.Common.{rules}
use Rattle.elf_image.specs.Written.{file_of}
use Rattle.elf_image.proofs.RoundTrip.{passes, same_image}
use Rattle.elf_image.proofs.writer.write.Goals as goal

pub returns-clause-exact : goal.returns-clause-exact
unfolding file_of
returns-clause-exact c = search rules

pub returns-clause-passes : goal.returns-clause-passes
returns-clause-passes c =
    rw (returns-clause-exact c) (passes c.args.image.now c.segments-segments.ensures.well_formed)

pub returns-clause-only : goal.returns-clause-only
returns-clause-only c =
    rw (returns-clause-exact c) (same_image c.args.image.now c.segments-segments.ensures.well_formed)
