use Rattle.std.proofs.Common.{arith, refl}
use Rattle.scripts.proofs.{Parts.apart, Parts.same_value, Spellings.with_asterisk, Spellings.without_asterisk}
use Rattle.scripts.proofs.spelling.read_word.Goals as goal

pub returns-in_err-action-in-Some-clause-only : goal.returns-in_err-action-in-Some-clause-only
returns-in_err-action-in-Some-clause-only c = λ word spelled.
    let parts = with_asterisk _ _ _ word c.in-Some.ensures.found c.in-Some.ensures.first spelled in
    apart word.action (c.in_err-action-in-Some.ensures.only word.action parts.0)

pub returns-in_err-repeat-in-Some-clause-only : goal.returns-in_err-repeat-in-Some-clause-only
returns-in_err-repeat-in-Some-clause-only c = λ word spelled.
    let parts = with_asterisk _ _ _ word c.in-Some.ensures.found c.in-Some.ensures.first spelled in
    apart word.repeat (c.in_err-repeat-in-Some.ensures.only word.repeat spelled.limit parts.1)

pub returns-in-0-clause-only : goal.returns-in-0-clause-only
returns-in-0-clause-only c = λ word spelled.
    let parts = with_asterisk _ _ _ word c.in-Some.ensures.found c.in-Some.ensures.first spelled in
    let same = same_value _ word.repeat (c.in_ok-repeat-in-Some.ensures.only word.repeat spelled.limit parts.1) in
    absurd (omega arith)

pub returns-in_default-clause-only : goal.returns-in_default-clause-only
returns-in_default-clause-only c = λ word spelled.
    let parts = with_asterisk _ _ _ word c.in-Some.ensures.found c.in-Some.ensures.first spelled in
    rw (
      same_value _ word.action (c.in_ok-action-in-Some.ensures.only word.action parts.0),
      same_value _ word.repeat (c.in_ok-repeat-in-Some.ensures.only word.repeat spelled.limit parts.1),
    ) refl

pub returns-in_err-read_action-in-None-clause-only : goal.returns-in_err-read_action-in-None-clause-only
returns-in_err-read_action-in-None-clause-only c = λ word spelled.
    let parts = without_asterisk _ word c.in-None.ensures.none spelled in
    apart word.action (c.in_err-read_action-in-None.ensures.only word.action parts.0)

pub returns-in_ok-read_action-in-None-clause-only : goal.returns-in_ok-read_action-in-None-clause-only
returns-in_ok-read_action-in-None-clause-only c = λ word spelled.
    let parts = without_asterisk _ word c.in-None.ensures.none spelled in
    rw (same_value _ word.action (c.in_ok-read_action-in-None.ensures.only word.action parts.0), ← parts.1) refl
