use Rattle.std.proofs.Common.{◌≡◌, map, take}
use Rattle.elf_image.specs.Loaded.{segment_of}
use Rattle.elf_image.proofs.loader.read_segments.Given as goal

-- the segments so far are those of the headers so far
abbrev pub invariant-loop-header : goal.invariant-loop-header
invariant-loop-header l = l.segments.items ≡ map (segment_of l.file) (take l.header-index l.headers)
