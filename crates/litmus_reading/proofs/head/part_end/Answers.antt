use Rattle.std.proofs.Common.{◌≡◌, true}
use Rattle.std.specs.Prelude.{slice_index}
use Rattle.litmus_words.proofs.Ending.{not_true}
use Rattle.litmus_reading.proofs.Heading.{key_part, quoted_part}
use Rattle.litmus_reading.proofs.head.part_end.Goals as goal
use Rattle.litmus_reading.proofs.head.part_end.Goals.{then-may_quote+else-text-at-eq34, else-may_quote}

pub returns-in_err-behind-clause-only : goal.returns-in_err-behind-clause-only
returns-in_err-behind-clause-only c = λ left behind part.
    absurd (c.in_err-behind.ensures.only behind
    (quoted_part c.args.text.now c.args.may_quote left c.args.at behind c.if-text-at-eq34.true part).1)

pub returns-in_err-behind-2-clause-only : goal.returns-in_err-behind-2-clause-only
returns-in_err-behind-2-clause-only c = λ left behind part.
    let other : c.args.may_quote ≡ true → slice_index c.args.text.now c.args.at ≡ 34 → ⊥ =
    elim c.if-may_quote.branch [
      | then-may_quote+else-text-at-eq34 w ↦ λ may opens. w.if-text-at-eq34.false opens
      | else-may_quote w ↦ λ may opens. not_true c.args.may_quote w.if-may_quote.false may
    ] in
    absurd (c.in_err-behind-2.ensures.only behind
    (key_part c.args.text.now c.args.may_quote left c.args.at behind other part).1)
