use Rattle.std.proofs.Common.{subst, ℕ, List}
use Rattle.litmus_words.specs.Words.{IsRegisterNamed}
use Rattle.std.proofs.lemmas.Str.{IsUtf8-from_ascii}
use Rattle.litmus_words.proofs.{Naming.names_register, Once.is_ascii_name}
use Rattle.litmus_words.proofs.names.name_token.Goals as goal

pub returns-in-Some : goal.returns-in-Some
returns-in-Some c = names_register _ _ c.in-Some.ensures.found

pub returns-in-Err : goal.returns-in-Err
returns-in-Err c = absurd (c.in-Err.ensures.cases.0 (IsUtf8-from_ascii _ (is_ascii_name _ c.requires)))

pub text_token-requires : goal.text_token-requires
text_token-requires c = λ r is.
    let none = rw c.in_default.is at c.register_of.ensures.none in
    none r (subst (λ (t : List ℕ). IsRegisterNamed t r) c.in-Ok.ensures.cases.0 is)
