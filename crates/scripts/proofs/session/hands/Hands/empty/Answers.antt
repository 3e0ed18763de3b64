use Rattle.std.specs.Prelude.{None}
use Rattle.std.proofs.Common.{arith, sym, ◌∙◌, ◌<◌}
use Rattle.std.proofs.lemmas.List.{get_or-replicate, same_lists}
use Rattle.numbers.specs.Sizes.{most_actors}
use Rattle.scripts.proofs.session.hands.Hands.empty.Goals as goal

pub returns : goal.returns
returns c =
    let all = c.default.ensures in
    same_lists _ _ all.long (λ k d inside.
    let there : k < most_actors = omega (arith, all.long, inside) in
    all.at k d there ∙ sym (get_or-replicate most_actors k None d there))
