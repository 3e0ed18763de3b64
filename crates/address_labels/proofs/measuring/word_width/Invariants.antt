use Rattle.std.proofs.Common.{◌≡◌, length, take}
use Rattle.shown_text.specs.Shown.{shown_name}
use Rattle.address_labels.specs.Texts.{as_word}
use Rattle.address_labels.proofs.measuring.word_width.Given as goal

abbrev pub invariant-loop-byte : goal.invariant-loop-byte
invariant-loop-byte l = l.width ≡ as_word (length (shown_name (take l.byte-index l.name)))
