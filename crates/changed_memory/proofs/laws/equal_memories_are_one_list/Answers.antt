use Rattle.elf_image.specs.Image.{byte_in}
use Rattle.changed_memory.proofs.Canonical.{canonical_is_one}
use Rattle.changed_memory.proofs.laws.equal_memories_are_one_list.Goals as goal

pub returns : goal.returns
returns c image s t one other same =
    canonical_is_one (byte_in image) s.changes t.changes one.changes other.changes same
