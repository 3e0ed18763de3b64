use Rattle.std.proofs.Common.{◌∙◌, sym, ap, arith}
use Rattle.watched_outcomes.specs.Endings.{Ending}
use Rattle.watched_outcomes.proofs.Same.{statuses_same, numbers_same, same_ending, statuses_equal, numbers_equal}
use Rattle.watched_outcomes.proofs.outcome.Outcome.is_same.Goals as goal

pub returns-then-same_words-clause-same : goal.returns-then-same_words-clause-same
returns-then-same_words-clause-same c same =
    let all = c.if-same_words.true in
    same_ending c.args.self.now c.args.other.now
    (ap (λ (e : Ending). e.statuses) (sym c.self.view_is)
    ∙ (sym c.as_slice.ensures.value ∙ (statuses_same _ _ _ c.eq-same_statuses.ensures all.0
    ∙ (c.as_slice-2.ensures.value ∙ ap (λ (e : Ending). e.statuses) c.other.view_is))))
    (ap (λ (e : Ending). e.registers) (sym c.self.view_is)
    ∙ (sym c.as_slice-3.ensures.value ∙ (numbers_same _ _ _ c.eq-same_registers.ensures all.1
    ∙ (c.as_slice-4.ensures.value ∙ ap (λ (e : Ending). e.registers) c.other.view_is))))
    (ap (λ (e : Ending). e.words) (sym c.self.view_is)
    ∙ (sym c.as_slice-5.ensures.value ∙ (numbers_same _ _ _ c.eq-same_words.ensures all.2
    ∙ (c.as_slice-6.ensures.value ∙ ap (λ (e : Ending). e.words) c.other.view_is))))
    (ap (λ (e : Ending). e.output) (sym c.self.view_is)
    ∙ (sym c.as_slice-7.ensures.value ∙ (numbers_same _ _ _ c.eq-same_output.ensures same
    ∙ (c.as_slice-8.ensures.value ∙ ap (λ (e : Ending). e.output) c.other.view_is))))

pub returns-then-same_words-clause-different : goal.returns-then-same_words-clause-different
returns-then-same_words-clause-different c other same =
    let one = ap (λ (e : Ending). e.output) (c.self.view_is ∙ (same ∙ sym c.other.view_is)) in
    let is = numbers_equal _ _ _ c.eq-same_output.ensures
    (c.as_slice-7.ensures.value ∙ (one ∙ sym c.as_slice-8.ensures.value)) in
    absurd (grind (arith, is, other))

pub returns-else-same_words-clause-different : goal.returns-else-same_words-clause-different
returns-else-same_words-clause-different c other same =
    let ends : _ = c.self.view_is ∙ (same ∙ sym c.other.view_is) in
    let statuses = statuses_equal _ _ _ c.eq-same_statuses.ensures
    (c.as_slice.ensures.value ∙ (ap (λ (e : Ending). e.statuses) ends ∙ sym c.as_slice-2.ensures.value)) in
    let registers = numbers_equal _ _ _ c.eq-same_registers.ensures
    (c.as_slice-3.ensures.value ∙ (ap (λ (e : Ending). e.registers) ends ∙ sym c.as_slice-4.ensures.value)) in
    let words = numbers_equal _ _ _ c.eq-same_words.ensures
    (c.as_slice-5.ensures.value ∙ (ap (λ (e : Ending). e.words) ends ∙ sym c.as_slice-6.ensures.value)) in
    absurd (grind (arith, c.if-same_words.fact, statuses, registers, words))
