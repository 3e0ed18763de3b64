use Rattle.std.proofs.Common.{◌≡◌, ◌+◌, ◌*◌, ◌≤◌, ◌++◌, drop}
use Rattle.elf_image.specs.Written.{program_headers}
use Rattle.elf_image.proofs.writer.push_program_headers.Given as goal

-- the headers so far and those of the segments that are left are those of all
abbrev pub invariant-loop-segment : goal.invariant-loop-segment
invariant-loop-segment l =
    (l.file.items ++ program_headers (drop l.segment-index l.segments) l.offset ≡ l.initial.file.items
    ++ program_headers l.segments l.fn.offset)
    × (l.offset ≤ 1024 + 16777216 * l.segment-index)
