use Rattle.std.proofs.Common.{◌≡◌, ◌++◌, take}
use Rattle.std.specs.Prelude.{flat_map}
use Rattle.elf_image.proofs.writer.push_contents.Given as goal

-- the bytes of those so far are at the end
abbrev pub invariant-loop-segment : goal.invariant-loop-segment
invariant-loop-segment l =
    l.file.items ≡ l.initial.file.items ++ flat_map (λ s. s.bytes) (take l.segment-index l.segments)
