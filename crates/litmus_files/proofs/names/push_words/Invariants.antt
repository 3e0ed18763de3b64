use Rattle.std.proofs.Common.{◌≡◌, ◌++◌, take}
use Rattle.std.specs.Prelude.{flat_map}
use Rattle.elf_image.specs.Written.{word_bytes}
use Rattle.litmus_files.proofs.names.push_words.Given as goal

-- the bytes of those so far are at the end
abbrev pub invariant-loop-word : goal.invariant-loop-word
invariant-loop-word l = l.file.items ≡ l.initial.file.items ++ flat_map word_bytes (take l.word-index l.words)
