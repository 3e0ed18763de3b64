use Rattle.std.proofs.Common.{◌≡◌, ◌-◌, ◌+◌, ℕ, List, ◌∷◌, ◌++◌, length, take, drop, refl, sym, subst, ap, ◌∙◌, arith}
use Rattle.std.proofs.lemmas.Grind.{common_steps}
use Rattle.text_fields.specs.Splitting.{Lacks}
use Rattle.source_lines.proofs.Cutting.{cut_at, lacks_none}
use Rattle.core_commands.proofs.chart_ends.name_in_file.Goals as goal

pub loop-back-init : goal.loop-back-init
loop-back-init c =
    let none : length c.args.word.now - 0 ≡ length c.args.word.now = omega arith in
    subst (λ (n : ℕ). Lacks 58 (drop n c.args.word.now)) (sym none) (lacks_none 58 c.args.word.now)

pub returns-then-word-place-eq58-clause-some : goal.returns-then-word-place-eq58-clause-some
returns-then-word-place-eq58-clause-some c =
    let word : List ℕ = c.args.word.now in
    let place : ℕ = length word - 1 - c.loop-back.back in
    let next : length word - c.loop-back.back ≡ place + 1 = omega arith in
    let tail : take (length word - (place + 1)) (drop (place + 1) word) ≡ drop (place + 1) word = grind
    (arith, common_steps) in
    record {
      file = take place word;
      named = refl;
      whole = cut_at word place (omega arith)
          ∙ ap (λ (b : ℕ). take place word ++ b ∷ drop (place + 1) word) c.if-word-place-eq58.true
          ∙ ap (λ (bs : List ℕ). take place word ++ 58 ∷ bs) (sym tail);
      last = subst (λ (bs : List ℕ). Lacks 58 bs) (sym tail)
          (subst (λ (n : ℕ). Lacks 58 (drop n word)) next c.loop-back.invariant);
    }

pub returns-clause-none : goal.returns-clause-none
returns-clause-none c =
    let none : length c.args.word.now - c.loop-back.back ≡ 0 = omega arith in
    subst (λ (n : ℕ). Lacks 58 (drop n c.args.word.now)) none c.loop-back.invariant
