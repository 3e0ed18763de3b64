use Rattle.std.proofs.Common.{◌≡◌, ◌∷◌, ◌++◌, [], ℕ, List, sym, ap, ◌∙◌, arith}
use Rattle.std.proofs.lemmas.Grind.{common_steps}
use Rattle.litmus_suites.specs.Reading.{line_of}
use Rattle.litmus_suites.proofs.Growing.{goes_on}
use Rattle.litmus_suites.proofs.summary_lines.read_lines.Goals as goal

pub loop-left-preserved : goal.loop-left-preserved
loop-left-preserved c =
    let line = c.in-Some.line in
    let pushed : c.push.new.self.items ≡ c.loop-left.lines.items ++ line ∷ [] = grind (arith, common_steps) in
    goes_on c.args.text.now c.loop-left.left.now c.split_field.result.1.now c.loop-left.lines.items
    c.push.new.self.items line c.loop-left.invariant pushed
    (c.in-Some.ensures.cut ∙ ap (λ (bs : List ℕ). line_of line ++ 10 ∷ bs) (sym c.split_field.ensures.others))
    c.in-Some.ensures.one
