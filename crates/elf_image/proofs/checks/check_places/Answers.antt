use Rattle.std.proofs.Common.{rules}
use Rattle.elf_image.proofs.checks.check_places.Goals as goal

pub returns-then-is_empty-clause-refused : goal.returns-then-is_empty-clause-refused
returns-then-is_empty-clause-refused c = search rules

pub returns-then-not-are_apart-clause-refused : goal.returns-then-not-are_apart-clause-refused
returns-then-not-are_apart-clause-refused c = search rules

pub returns-then-not-are_in_file-clause-refused : goal.returns-then-not-are_in_file-clause-refused
returns-then-not-are_in_file-clause-refused c = search rules

pub returns-then-not-are_in_ram-clause-refused : goal.returns-then-not-are_in_ram-clause-refused
returns-then-not-are_in_ram-clause-refused c = search rules

pub returns-then-not-have_memory-clause-refused : goal.returns-then-not-have_memory-clause-refused
returns-then-not-have_memory-clause-refused c = search rules
