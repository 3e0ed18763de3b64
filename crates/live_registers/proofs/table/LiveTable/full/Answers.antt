use Rattle.std.specs.Prelude.{◌≡◌, true, false, All}
use Rattle.elf_image.specs.Image.{ProgramImage, byte_in, code_writable}
use Rattle.decoded_code.specs.Code.{IsCodeOf}
use Rattle.live_registers.specs.declared.table.LiveTable.{LiveTable}
use Rattle.live_registers.specs.declared.targets.Targets.{Targets}
use Rattle.live_registers.specs.Table.{IsTableOf, IsOfCode, IsAllAlike}
use Rattle.live_registers.proofs.{Below.from_both, Good.full_good}
use Rattle.live_registers.proofs.table.LiveTable.full.Goals as goal

pub returns-clause-good : goal.returns-clause-good
returns-clause-good c =
    from_both c.filled.result (IsOfCode c.args.code.now)
    (λ (table : LiveTable). All (IsAllAlike true) table.rows.items)
    (λ table. (image : ProgramImage) (targets : Targets) → code_writable image ≡ false
    → IsCodeOf image (byte_in image) c.args.code.now → IsTableOf image targets table)
    c.filled.ensures.of_code c.filled.ensures.all
    (λ table of_code full image targets fixed is. full_good image c.args.code.now targets table fixed is of_code full)
