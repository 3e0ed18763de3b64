use Rattle.std.proofs.Common.{rules}
use Rattle.elf_image.proofs.ram_size.RamSize.new.Goals as goal

pub returns-else-bytes-eq0-clause-valid : goal.returns-else-bytes-eq0-clause-valid
returns-else-bytes-eq0-clause-valid c = search rules
