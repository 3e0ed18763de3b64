use Rattle.std.proofs.lemmas.Str.{IsUtf8-from_ascii}
use Rattle.litmus_words.proofs.Tables.{sign_ascii}
use Rattle.litmus_words.proofs.names.sign_of.Goals as goal

pub returns-in-Err-clause-none : goal.returns-in-Err-clause-none
returns-in-Err-clause-none c = λ mark is. absurd (c.in-Err.ensures.cases.0 (IsUtf8-from_ascii _ (sign_ascii _ mark is)))
