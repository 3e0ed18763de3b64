use Rattle.std.proofs.Common.{◌≡◌, ◌++◌, take}
use Rattle.std.specs.Prelude.{flat_map}
use Rattle.elf_image.specs.Written.{half_bytes}
use Rattle.elf_image.proofs.fields.push_halves.Given as goal

-- the bytes of those so far are at the end
abbrev pub invariant-loop-half : goal.invariant-loop-half
invariant-loop-half l = l.file.items ≡ l.initial.file.items ++ flat_map half_bytes (take l.half-index l.halves)
