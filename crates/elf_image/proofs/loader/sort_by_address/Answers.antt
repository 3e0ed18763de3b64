use Rattle.std.proofs.{Common.rules, lemmas.List.Sorted.IsNonDecreasingBy-from_sort_by_key}
use Rattle.elf_image.specs.declared.program_header.ProgramHeader.{ProgramHeader}
use Rattle.elf_image.proofs.loader.sort_by_address.Goals as goal

pub returns-clause-rising : goal.returns-clause-rising
returns-clause-rising c =
    IsNonDecreasingBy-from_sort_by_key (λ (h : ProgramHeader). h.address) _ c.sort_unstable_by_key.ensures.sorted
    (λ a r q k. search rules)
