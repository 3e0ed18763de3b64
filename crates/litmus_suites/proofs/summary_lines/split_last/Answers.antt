use Rattle.std.proofs.Common.{◌≡◌, ◌-◌, ℕ, length, drop, sym, subst, arith}
use Rattle.std.proofs.lemmas.Grind.{common_steps}
use Rattle.text_fields.specs.Splitting.{Lacks}
use Rattle.source_lines.proofs.Cutting.{lacks_none, last_at, last_alone}
use Rattle.litmus_suites.proofs.summary_lines.split_last.Goals as goal

pub loop-back-init : goal.loop-back-init
loop-back-init c =
    let none : length c.args.text.now - 0 ≡ length c.args.text.now = omega arith in
    subst (λ (n : ℕ). Lacks 32 (drop n c.args.text.now)) (sym none) (lacks_none 32 c.args.text.now)

pub returns-then-text-place-eq32-clause-before : goal.returns-then-text-place-eq32-clause-before
returns-then-text-place-eq32-clause-before c =
    let parts = last_at 32 c.args.text.now c.loop-back.back (omega arith) c.if-text-place-eq32.true c.loop-back.invariant in
    let before = parts.0 in grind (arith, common_steps)

pub returns-then-text-place-eq32-clause-behind : goal.returns-then-text-place-eq32-clause-behind
returns-then-text-place-eq32-clause-behind c =
    let parts = last_at 32 c.args.text.now c.loop-back.back (omega arith) c.if-text-place-eq32.true c.loop-back.invariant in
    let behind = parts.1 in grind (arith, common_steps)

pub returns-clause-before : goal.returns-clause-before
returns-clause-before c =
    let none : length c.args.text.now - c.loop-back.back ≡ 0 = omega arith in
    (last_alone 32 c.args.text.now (subst (λ (n : ℕ). Lacks 32 (drop n c.args.text.now)) none c.loop-back.invariant)).0

pub returns-clause-behind : goal.returns-clause-behind
returns-clause-behind c =
    let none : length c.args.text.now - c.loop-back.back ≡ 0 = omega arith in
    (last_alone 32 c.args.text.now (subst (λ (n : ℕ). Lacks 32 (drop n c.args.text.now)) none c.loop-back.invariant)).1
