use Rattle.litmus_words.specs.declared.word.Token.TheVariants.{Register}
use Rattle.litmus_reading.proofs.Chains.{behind_one, last_of_less, last_of_more, one_of}
use Rattle.litmus_reading.proofs.operands.register_label.Goals as goal

pub returns-in_err-first-clause-only : goal.returns-in_err-first-clause-only
returns-in_err-first-clause-only c = λ first label is last.
    absurd (c.in_err-first.ensures.only first _ (one_of c.args.words.now (Register first) _ is).takes)

pub returns-in_err-label-clause-only : goal.returns-in_err-label-clause-only
returns-in_err-label-clause-only c = λ first label is last.
    absurd (c.in_err-label.ensures.only label (behind_one _ _ _ _ _ c.in_ok-first.ensures.taken is)
    (last_of_less _ _ _ label _ _ c.in_ok-first.ensures.taken (behind_one _ _ _ _ _ c.in_ok-first.ensures.taken is) last))

pub returns-clause-label : goal.returns-clause-label
returns-clause-label c = last_of_more _ _ _ _ c.in_ok-first.ensures.taken c.in_ok-label.ensures.label

pub returns-clause-only : goal.returns-clause-only
returns-clause-only c = λ first label is last. (
  (c.in_ok-first.ensures.only first _ (one_of c.args.words.now (Register first) _ is).takes).0,
  c.in_ok-label.ensures.only label (behind_one _ _ _ _ _ c.in_ok-first.ensures.taken is)
      (last_of_less _ _ _ label _ _ c.in_ok-first.ensures.taken (behind_one _ _ _ _ _ c.in_ok-first.ensures.taken is) last),
)
