use Rattle.std.proofs.Common.{◌∷◌, [], subst}
use Rattle.litmus_words.specs.Tokens.{Takes}
use Rattle.litmus_words.proofs.Taking.{taken_first}
use Rattle.litmus_reading.proofs.fitting.check_pointer.Goals as goal

pub returns-in-Location-clause-only : goal.returns-in-Location-clause-only
returns-in-Location-clause-only c = λ points.
    c.check_same.ensures.only (points c.in-Location.declared c.in-Some.field-0-1.now
    (subst (λ token. Takes c.args.words.now (token ∷ []) c.in-Some.field-0-1.now) c.in-Location.is
    (taken_first c.args.words.now c.in-Some.field-0-1.now c.in-Some.word.now c.in-Some.ensures.cases.0)))
