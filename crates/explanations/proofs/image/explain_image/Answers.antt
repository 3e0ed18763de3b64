use Rattle.elf_image.specs.declared.refusal.LoadRefused.TheVariants.{TooShort, TableOutsideFile}
use Rattle.explanations.proofs.image.explain_image.Goals as goal

pub accepted_text-requires-clause-whole : goal.accepted_text-requires-clause-whole
accepted_text-requires-clause-whole c = c.in-Ok.ensures.passes TooShort

pub accepted_text-requires-clause-table : goal.accepted_text-requires-clause-table
accepted_text-requires-clause-table c = c.in-Ok.ensures.passes TableOutsideFile
