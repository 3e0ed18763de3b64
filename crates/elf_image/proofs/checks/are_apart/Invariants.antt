use Rattle.std.proofs.Common.{ℕ, ◌<◌, slice_index_or}
use Rattle.elf_image.specs.{declared.program_header.ProgramHeader.ProgramHeader, Checks.AreApart}
use Rattle.elf_image.proofs.checks.are_apart.Given as goal

-- the segments before `later` are apart from each other
abbrev pub invariant-loop-later : goal.invariant-loop-later
invariant-loop-later l = (a b : ℕ) (d : ProgramHeader) → a < b → b < l.later
    → AreApart (slice_index_or l.headers a d) (slice_index_or l.headers b d)

-- and those before `earlier` from the one at `later`
abbrev pub invariant-loop-earlier : goal.invariant-loop-earlier
invariant-loop-earlier l = (a : ℕ) (d : ProgramHeader) → a < l.earlier
    → AreApart (slice_index_or l.headers a d) (slice_index_or l.headers l.later d)
