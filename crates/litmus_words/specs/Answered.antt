-- What a reader answers of a text or of words of which it is known what they say.
use Rattle.std.specs.Prelude.{Result, Ok, Err, Option, Some, None}
use Rattle.litmus_words.specs.declared.refused.Stop.{Stop}
use Rattle.litmus_words.specs.declared.refused.Stop.TheVariants.{Memory, Fault}

-- It answers what is so.
abbrev pub Gives : {A : Type 0} → Result A Stop → (A → Type 0) → Type 0
Gives (Ok answer) IsSo = IsSo answer
Gives (Err stop) IsSo = ⊥

-- It does, or there was no memory.
abbrev pub GivesOrMemory : {A : Type 0} → Result A Stop → (A → Type 0) → Type 0
GivesOrMemory (Ok answer) IsSo = IsSo answer
GivesOrMemory (Err Memory) IsSo = Unit {0}
GivesOrMemory (Err (Fault at fault)) IsSo = ⊥

-- The same of one that answers nothing where they don't say that.
abbrev pub GivesSome : {A : Type 0} → Option A → (A → Type 0) → Type 0
GivesSome (Some answer) IsSo = IsSo answer
GivesSome None IsSo = ⊥
