-- Words cut at a mark.
use Rattle.std.specs.Prelude.{◌≡◌, ◌≢◌, ◌⊎◌, List, [], ◌∷◌, ◌++◌, All}
use Rattle.litmus_words.specs.declared.word.Word.{Word}
use Rattle.litmus_words.specs.declared.word.Mark.{Mark}
use Rattle.litmus_words.specs.declared.word.Token.TheVariants.{Mark as mark_token}

-- The mark stands between what is before and behind it, or else all is before it.
abbrev pub IsCut : List Word → Mark → List Word → List Word → Type 0
IsCut words mark before behind = ((words ≡ before) × (behind ≡ []))
    ⊎ ((word : Word) × (words ≡ before ++ word ∷ behind) × (word.token ≡ mark_token mark))

-- No word is this mark.
abbrev pub LacksMark : Mark → List Word → Type 0
LacksMark mark words = All (λ word. word.token ≢ mark_token mark) words
