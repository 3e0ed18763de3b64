use Rattle.std.proofs.Common.{◌≡◌, ℕ, ◌<◌, slice_index_or}
use Rattle.elf_image.specs.Image.{ProgramSegment}
use Rattle.elf_image.proofs.segment.same_segments.Given as goal

-- the segments before i are the same in both
abbrev pub invariant-loop-i : goal.invariant-loop-i
invariant-loop-i l = (k : ℕ) (d : ProgramSegment) → k < l.i → slice_index_or l.some k d ≡ slice_index_or l.others k d
