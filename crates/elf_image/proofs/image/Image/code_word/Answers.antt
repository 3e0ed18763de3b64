use Rattle.std.proofs.Common.{rules}
use Rattle.elf_image.specs.{Image.word_now}
use Rattle.elf_image.proofs.image.Image.code_word.Goals as goal

pub returns-then-has_code_word : goal.returns-then-has_code_word
unfolding word_now
returns-then-has_code_word c = search rules
