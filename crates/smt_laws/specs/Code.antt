-- Code that may not be written stays what the image has: so a word is the same whenever it is read.
use Rattle.std.specs.Prelude.{◌≡◌, ℕ, false, List}
use Rattle.elf_image.specs.Image.{ProgramImage, word_now, code_word, code_writable}
use Rattle.events.specs.declared.event.Event.{Event}
use Rattle.smt_model.specs.{Setup.Setup, Bytes.byte_after, Memory.byte_at, Plain.Plain}
use Rattle.smt_model.specs.{Plain.effect_at, Rules.is_legal}

-- At each pc these bytes have the word that the image has.
abbrev pub HoldsItsCode : ProgramImage → (ℕ → ℕ) → Type 0
HoldsItsCode image bytes = (pc : ℕ) → word_now image bytes pc ≡ code_word image pc

-- Every legal history leaves it so.
abbrev pub HistoriesKeepCode : Type 0
HistoriesKeepCode = (setup : Setup) → code_writable setup.image ≡ false
    → (past : List Event) → is_legal setup past → HoldsItsCode setup.image (byte_at setup past)

-- So does each step of the plain machine.
abbrev pub StepsKeepCode : Type 0
StepsKeepCode = (setup : Setup) → code_writable setup.image ≡ false
    → (s : Plain) (h : ℕ) → HoldsItsCode setup.image s.bytes
    → HoldsItsCode setup.image (λ a. byte_after (effect_at setup s h).write a (s.bytes a))
