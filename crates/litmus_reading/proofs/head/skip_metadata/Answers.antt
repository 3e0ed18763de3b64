use Rattle.std.proofs.Common.{◌≡◌, ℕ, length, sym, subst, inl, inr, arith}
use Rattle.litmus_reading.specs.Heads.{metadata_over, metadata_part, IsWholeGap}
use Rattle.litmus_reading.proofs.Heading.{behind_part, next_part, no_more}
use Rattle.litmus_reading.proofs.head.skip_metadata.Goals as goal

pub loop-at-init : goal.loop-at-init
loop-at-init c = record { inside = c.requires; metadata = λ to is. is; only = λ to is. is }

pub loop-at-preserved : goal.loop-at-preserved
loop-at-preserved c = record {
  inside = c.in_ok-at.ensures.inside;
  metadata = λ to is. c.loop-at.invariant.metadata to (metadata_part _ _ _ _ _ to c.in_ok-behind.ensures.part
      (c.in_ok-at.ensures.gap, c.in_ok-at.ensures.over) is);
  only = λ to is.
      let it = next_part c.args.text.now c.loop-at.may_quote c.loop-at.at to c.loop-at-test.true
      c.if-text-at-ne123.true (c.loop-at.invariant.only to is) in
      behind_part c.args.text.now c.loop-at.may_quote _ c.loop-at.at c.in_ok-behind.behind c.in_ok-at.at to it
      (c.in_ok-behind.ensures.only it.left it.behind it.part) (λ n gap. c.in_ok-at.ensures.only n gap.0 gap.1);
}

pub returns-in_err-behind-clause-only : goal.returns-in_err-behind-clause-only
returns-in_err-behind-clause-only c = λ to is.
    let it = next_part c.args.text.now c.loop-at.may_quote c.loop-at.at to c.loop-at-test.true
    c.if-text-at-ne123.true (c.loop-at.invariant.only to is) in
    absurd (c.in_err-behind.ensures.only it.left it.behind it.part)

pub returns-in_err-at-clause-only : goal.returns-in_err-at-clause-only
returns-in_err-at-clause-only c = λ to is.
    let it = next_part c.args.text.now c.loop-at.may_quote c.loop-at.at to c.loop-at-test.true
    c.if-text-at-ne123.true (c.loop-at.invariant.only to is) in
    let gap = subst (λ (n : ℕ). IsWholeGap c.args.text.now n it.next)
    (sym (c.in_ok-behind.ensures.only it.left it.behind it.part).0) it.gap in
    absurd (c.in_err-at.ensures.only it.next gap.0 gap.1)

pub returns-after-loop-at-clause-metadata : goal.returns-after-loop-at-clause-metadata
returns-after-loop-at-clause-metadata c =
    let over : c.loop-at.at ≡ length c.args.text.now = omega (arith, c.loop-at-test.false, c.loop-at.invariant.inside) in
    c.loop-at.invariant.metadata c.loop-at.at (metadata_over c.loop-at.may_quote c.loop-at.at (inl over))

pub returns-after-loop-at-clause-only : goal.returns-after-loop-at-clause-only
returns-after-loop-at-clause-only c = λ to is.
    let over : c.loop-at.at ≡ length c.args.text.now = omega (arith, c.loop-at-test.false, c.loop-at.invariant.inside) in
    no_more c.args.text.now c.loop-at.may_quote c.loop-at.at to (inl over) (c.loop-at.invariant.only to is)

pub returns-else-text-at-ne123-clause-metadata : goal.returns-else-text-at-ne123-clause-metadata
returns-else-text-at-ne123-clause-metadata c =
    c.loop-at.invariant.metadata c.loop-at.at
    (metadata_over c.loop-at.may_quote c.loop-at.at (inr c.if-text-at-ne123.false))

pub returns-else-text-at-ne123-clause-only : goal.returns-else-text-at-ne123-clause-only
returns-else-text-at-ne123-clause-only c = λ to is.
    no_more c.args.text.now c.loop-at.may_quote c.loop-at.at to (inr c.if-text-at-ne123.false)
    (c.loop-at.invariant.only to is)
