use Rattle.std.proofs.Common.{◌≡◌, ◌∷◌, ◌++◌, [], true, ℕ, List, Option, sym, ap, subst, ◌∙◌, arith}
use Rattle.std.proofs.lemmas.Grind.{common_steps}
use Rattle.source_lines.specs.Lines.{line_text, origin_of}
use Rattle.source_lines.specs.Faults.{is_behind}
use Rattle.source_lines.proofs.Growing.{goes_on, last_of_pushed}
use Rattle.source_lines.proofs.reading.read_lines.Goals as goal

pub loop-left-preserved : goal.loop-left-preserved
loop-left-preserved c =
    let line = c.in-Ok.line in
    let pushed : c.push.new.self.items ≡ c.loop-left.lines.items ++ line ∷ [] = grind (arith, common_steps) in
    record {
      are = goes_on c.args.image.now c.args.text.now c.loop-left.left.now c.split_field.result.1.now
          c.loop-left.lines.items c.push.new.self.items line c.loop-left.invariant.are pushed
          (c.in-Ok.ensures.cut ∙ ap (λ (bs : List ℕ). line_text (origin_of c.in-Ok.line) ++ 10 ∷ bs)
          (sym c.split_field.ensures.others))
          c.in-Ok.ensures.one
          (subst (λ (last : Option ℕ). is_behind last c.in-Ok.line.address ≡ true) c.loop-left.invariant.last_is
          c.in-Ok.ensures.behind);
      last_is = last_of_pushed c.loop-left.lines.items c.push.new.self.items line pushed;
    }
