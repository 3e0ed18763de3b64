-- A file that fails a later check has a whole table of program headers.
use Rattle.std.specs.Prelude.{ℕ, List, ◌<◌, ◌≤◌, ◌+◌, ◌*◌, length}
use Rattle.std.proofs.Common.{arith}
use Rattle.elf_image.specs.{declared.refusal.LoadRefused.LoadRefused, Refusal.reason_number}
use Rattle.elf_image.specs.declared.refusal.LoadRefused.TheVariants.{TableOutsideFile}
use Rattle.elf_image.specs.Layout.{table_offset, table_count}
use Rattle.explanations.specs.Explained.{IsRefusedBy}

pub table_in_file : (file : List ℕ) (ram : ℕ) (check : LoadRefused) → IsRefusedBy file ram check
    → 10 ≤ reason_number check → table_offset file + 32 * table_count file ≤ length file
table_in_file file ram check refused late = refused.refusal.before TableOutsideFile (omega (arith, late))
