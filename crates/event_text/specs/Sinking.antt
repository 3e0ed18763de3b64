-- What a call has put into a sink. A sink says of its values which bytes were put, where it knows
-- them (`written`), whether it has failed (`has_failed`), and what one put does (`puts`).

use Rattle.std.specs.Prelude.{◌≡◌, ℕ, Bool, true, false, List, ◌++◌, Option, Result, Err}
use Rattle.std.specs.Io.KnownBytes.{Appends}
use Rattle.event_text.specs.declared.sink.Broken.{Broken}

-- the sink took all these bytes, and none of its puts failed
pub record HasPut {S : Type 0} (written : S → Option (List ℕ)) (has_failed : S → Bool) (old new : S)
    (text : List ℕ) : Type 0 where
  pub appended : Appends (written old) (written new) text
  pub works : has_failed new ≡ false

-- the sink took all of this text but an end that is held back, and none of its puts failed
pub record HasPutBut {S : Type 0} (written : S → Option (List ℕ)) (has_failed : S → Bool)
    (old new : S) (text held : List ℕ) : Type 0 where
  pub part : List ℕ
  pub parts : text ≡ part ++ held
  pub put : HasPut written has_failed old new part

-- The sink took a beginning of the text; then a put failed, the first that did, and it was the last
-- of all.
pub record HasBroken {S : Type 0} (written : S → Option (List ℕ)) (has_failed : S → Bool)
    (puts : S → List ℕ → Result ℕ Broken → S → Type 0) (old new : S) (text : List ℕ) : Type 0 where
  pub part : List ℕ
  pub left : List ℕ
  pub begins : text ≡ part ++ left
  pub appended : Appends (written old) (written new) part
  pub failed : has_failed new ≡ true
  pub before : S
  pub worked : has_failed before ≡ false
  pub piece : List ℕ
  pub cause : Broken
  pub last : puts before piece (Err cause) new
