use Rattle.std.proofs.Common.{ℕ, sym, ◌∙◌, arith, inl, inr, subst}
use Rattle.litmus_words.specs.Gaps.{IsGap, blank, comment, nothing}
use Rattle.litmus_words.proofs.Ending.{behind_blank, behind_comment, gap_at_end, gap_is_over}
use Rattle.litmus_words.proofs.lexer.skip_blanks.Goals as goal

pub loop-at-preserved-then-is_ascii_whitespace : goal.loop-at-preserved-then-is_ascii_whitespace
loop-at-preserved-then-is_ascii_whitespace c = record {
  on = omega (arith, c.loop-at.invariant.on);
  inside = omega (arith, c.loop-at-test.true);
  gap = λ to gap. c.loop-at.invariant.gap to (blank c.loop-at.at to
      (sym c.is_ascii_whitespace.ensures.value ∙ c.if-is_ascii_whitespace.true) gap);
  only = λ to gap end. behind_blank c.args.text.now c.loop-at.at to c.loop-at-test.true
      (sym c.is_ascii_whitespace.ensures.value ∙ c.if-is_ascii_whitespace.true) end
      (c.loop-at.invariant.only to gap end);
}

pub loop-at-preserved : goal.loop-at-preserved
loop-at-preserved c = record {
  on = omega (arith, c.loop-at.invariant.on, c.in_ok-at.ensures.on);
  inside = c.in_ok-at.ensures.inside;
  gap = λ to gap. c.loop-at.invariant.gap to (comment c.loop-at.at c.in_ok-at.at to
      (c.opens_at.ensures.opens c.if-opens_at.true) c.in_ok-at.ensures.rest gap);
  only = λ to gap end.
      let behind = behind_comment c.args.text.now c.loop-at.at to c.loop-at-test.true
      (c.opens_at.ensures.opens c.if-opens_at.true) end (c.loop-at.invariant.only to gap end) in
      subst (λ (n : ℕ). IsGap c.args.text.now n to) (sym (c.in_ok-at.ensures.only behind.0 behind.1)) behind.2;
}

pub returns-else-opens_at-clause-gap : goal.returns-else-opens_at-clause-gap
returns-else-opens_at-clause-gap c = c.loop-at.invariant.gap c.loop-at.at (nothing c.loop-at.at)

pub returns-clause-gap : goal.returns-clause-gap
returns-clause-gap c = c.loop-at.invariant.gap c.loop-at.at (nothing c.loop-at.at)

pub returns-else-opens_at-clause-over : goal.returns-else-opens_at-clause-over
returns-else-opens_at-clause-over c = inr (
  sym c.is_ascii_whitespace.ensures.value ∙ c.if-is_ascii_whitespace.false,
  c.opens_at.ensures.other c.if-opens_at.false,
)

pub returns-else-opens_at-clause-only : goal.returns-else-opens_at-clause-only
returns-else-opens_at-clause-only c = λ to gap end.
    gap_is_over c.args.text.now c.loop-at.at to (sym c.is_ascii_whitespace.ensures.value ∙ c.if-is_ascii_whitespace.false)
    (c.opens_at.ensures.other c.if-opens_at.false) (c.loop-at.invariant.only to gap end)

pub returns-in_err-at-clause-only : goal.returns-in_err-at-clause-only
returns-in_err-at-clause-only c = λ to gap end.
    let behind = behind_comment c.args.text.now c.loop-at.at to c.loop-at-test.true
    (c.opens_at.ensures.opens c.if-opens_at.true) end (c.loop-at.invariant.only to gap end) in
    absurd (c.in_err-at.ensures.only behind.0 behind.1)

pub returns-clause-over : goal.returns-clause-over
returns-clause-over c = inl (omega (arith, c.loop-at-test.false, c.loop-at.invariant.inside))

pub returns-clause-only : goal.returns-clause-only
returns-clause-only c = λ to gap end.
    gap_at_end c.args.text.now c.loop-at.at to c.loop-at-test.false (c.loop-at.invariant.only to gap end)
