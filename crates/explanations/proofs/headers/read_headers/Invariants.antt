use Rattle.std.proofs.Common.{◌≡◌, ◌+◌, ◌*◌, ◌-◌, ◌++◌}
use Rattle.elf_image.specs.Layout.{loadable_from}
use Rattle.explanations.proofs.headers.read_headers.Given as goal

-- the headers so far and those of the rest of the table are those of the table
abbrev pub invariant-loop-i : goal.invariant-loop-i
invariant-loop-i l =
    l.headers.items ++ loadable_from l.file (l.place + 32 * l.i) (l.count - l.i) ≡ loadable_from l.file l.place l.count
