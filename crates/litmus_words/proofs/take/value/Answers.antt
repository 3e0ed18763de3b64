use Rattle.std.proofs.Common.{rules, List, ◌∷◌, [], sym, ap, ◌∙◌, subst}
use Rattle.litmus_words.specs.declared.word.Token.TheVariants.{Location}
use Rattle.litmus_tests.specs.declared.value.Value.TheVariants as value
use Rattle.litmus_words.specs.Tokens.{Takes}
use Rattle.litmus_words.proofs.Taking.{taken_first}
use Rattle.litmus_words.proofs.Only.{of_address, of_number}
use Rattle.litmus_words.proofs.take.value.Goals as goal

pub returns-in_err-byte-in-Location-clause-only : goal.returns-in_err-byte-in-Location-clause-only
returns-in_err-byte-in-Location-clause-only c = λ held rest taken no_index no_offset.
    let first = subst (λ token. Takes c.args.words.now (token ∷ []) c.in_ok-word.field-0-1.now) c.in-Location.is
    (taken_first c.args.words.now c.in_ok-word.field-0-1.now c.in_ok-word.word c.in_ok-word.ensures.first) in
    let it = of_address c.args.words.now rest c.in_ok-word.field-0-1.now held c.in-Location.field-0 first taken in
    absurd (c.in_err-byte-in-Location.ensures.only it.0 rest it.2 no_index no_offset)

pub returns-in_ok-byte-in-Location-clause-only : goal.returns-in_ok-byte-in-Location-clause-only
returns-in_ok-byte-in-Location-clause-only c = λ held rest taken no_index no_offset.
    let first = subst (λ token. Takes c.args.words.now (token ∷ []) c.in_ok-word.field-0-1.now) c.in-Location.is
    (taken_first c.args.words.now c.in_ok-word.field-0-1.now c.in_ok-word.word c.in_ok-word.ensures.first) in
    let it = of_address c.args.words.now rest c.in_ok-word.field-0-1.now held c.in-Location.field-0 first taken in
    let same = c.in_ok-byte-in-Location.ensures.only it.0 rest it.2 no_index no_offset in
    (ap (λ n. value.Address n) same.0 ∙ sym it.1, same.1)

pub returns-in_err-number-in_default : goal.returns-in_err-number-in_default
returns-in_err-number-in_default c = record {
  taken = search rules;
  only = λ held rest taken no_index no_offset.
      let it = of_number c.args.words.now rest c.in_ok-word.field-0-1.now held c.in_ok-word.word
      c.in_ok-word.ensures.first c.in_default.not-Location taken in
      absurd (c.in_err-number-in_default.ensures.only it.0 rest it.2);
}
