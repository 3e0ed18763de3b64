-- What holds of an answer, from what holds of it in parts.
use Rattle.std.specs.Prelude.{Result, Ok, Err, OnOk, IfOk}

-- Of two claims on what was answered comes a third.
pub with_both : {A E : Type 0} (answer : Result A E) (P : Type 0) (Q R : A → Type 0) → OnOk answer P
    → IfOk answer Q → (P → (x : A) → Q x → R x) → IfOk answer R
with_both (Ok x) P Q R first second joins = joins first x second
with_both (Err e) P Q R first second joins = tt
