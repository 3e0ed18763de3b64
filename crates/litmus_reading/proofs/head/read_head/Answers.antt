use Rattle.std.proofs.Common.{rules, ℕ, true, sym, ap, ◌∙◌, subst, refl, arith}
use Rattle.std.specs.Prelude.{slice_range}
use Rattle.litmus_reading.specs.Heads.{IsMetadata, IsWholeGap}
use Rattle.litmus_reading.proofs.Heading.{name_there, same_word, word_there}
use Rattle.litmus_reading.proofs.head.read_head.Goals as goal

pub returns-then-ne-clause-only : goal.returns-then-ne-clause-only
returns-then-ne-clause-only c = λ name braces it.
    let same = word_there c.args.text.now name braces c.in_ok-at.at c.name_end-end.result it
    (c.in_ok-at.ensures.only it.begin it.gap.0 it.gap.1) c.name_end-end.ensures.on c.name_end-end.ensures.whole in
    same_word _ c.as_slice.result.now c.ne.result c.ne.ensures c.if-ne.true c.as_slice.ensures same

pub returns-then-name_start-name_end-clause-only : goal.returns-then-name_start-name_end-clause-only
returns-then-name_start-name_end-clause-only c = λ name braces it.
    let there = name_there c.args.text.now name braces c.in_ok-at.at c.name_end-end.result it
    (c.in_ok-at.ensures.only it.begin it.gap.0 it.gap.1) c.name_end-end.ensures.on c.name_end-end.ensures.whole
    c.line_end-line.result c.trimmed-name_start.result.0 c.trimmed-name_start.result.1 c.line_end-line.ensures
    c.trimmed-name_start.ensures in
    omega (arith, there.2, c.if-name_start-name_end.true)

pub returns-in_err-first-clause-only : goal.returns-in_err-first-clause-only
returns-in_err-first-clause-only c = λ name braces it.
    let there = name_there c.args.text.now name braces c.in_ok-at.at c.name_end-end.result it
    (c.in_ok-at.ensures.only it.begin it.gap.0 it.gap.1) c.name_end-end.ensures.on c.name_end-end.ensures.whole
    c.line_end-line.result c.trimmed-name_start.result.0 c.trimmed-name_start.result.1 c.line_end-line.ensures
    c.trimmed-name_start.ensures in
    let gap = subst (λ (n : ℕ). IsWholeGap c.args.text.now n it.first) (sym there.1) it.between in
    absurd (c.in_err-first.ensures.only it.first gap.0 gap.1)

pub returns-in_err-braces-clause-only : goal.returns-in_err-braces-clause-only
returns-in_err-braces-clause-only c = λ name braces it.
    let there = name_there c.args.text.now name braces c.in_ok-at.at c.name_end-end.result it
    (c.in_ok-at.ensures.only it.begin it.gap.0 it.gap.1) c.name_end-end.ensures.on c.name_end-end.ensures.whole
    c.line_end-line.result c.trimmed-name_start.result.0 c.trimmed-name_start.result.1 c.line_end-line.ensures
    c.trimmed-name_start.ensures in
    let gap = subst (λ (n : ℕ). IsWholeGap c.args.text.now n it.first) (sym there.1) it.between in
    absurd (c.in_err-braces.ensures.only braces (subst (λ (n : ℕ). IsMetadata c.args.text.now true n braces)
    (sym (c.in_ok-first.ensures.only it.first gap.0 gap.1)) it.metadata))

pub returns-clause-only : goal.returns-clause-only
returns-clause-only c = λ name braces it.
    let there = name_there c.args.text.now name braces c.in_ok-at.at c.name_end-end.result it
    (c.in_ok-at.ensures.only it.begin it.gap.0 it.gap.1) c.name_end-end.ensures.on c.name_end-end.ensures.whole
    c.line_end-line.result c.trimmed-name_start.result.0 c.trimmed-name_start.result.1 c.line_end-line.ensures
    c.trimmed-name_start.ensures in
    let gap = subst (λ (n : ℕ). IsWholeGap c.args.text.now n it.first) (sym there.1) it.between in (
      ap (λ (n : ℕ). slice_range c.args.text.now n c.trimmed-name_start.result.1) there.0
          ∙ ap (slice_range c.args.text.now it.start) there.1 ∙ sym it.named,
      c.in_ok-braces.ensures.only braces (subst (λ (n : ℕ). IsMetadata c.args.text.now true n braces)
          (sym (c.in_ok-first.ensures.only it.first gap.0 gap.1)) it.metadata),
    )

pub returns-clause-head : goal.returns-clause-head
returns-clause-head c = record {
  begin = c.in_ok-at.at;
  behind = c.name_end-end.result;
  line = c.line_end-line.result;
  start = c.trimmed-name_start.result.0;
  end = c.trimmed-name_start.result.1;
  first = c.in_ok-first.first;
  gap = (c.in_ok-at.ensures.gap, c.in_ok-at.ensures.over);
  word = search rules;
  whole = c.name_end-end.ensures.whole;
  one_line = c.line_end-line.ensures;
  trimmed = c.trimmed-name_start.ensures;
  some = omega (arith, c.if-name_start-name_end.false);
  named = refl;
  between = (c.in_ok-first.ensures.gap, c.in_ok-first.ensures.over);
  metadata = c.in_ok-braces.ensures.metadata;
}
