use Rattle.std.proofs.Common.{◌≡◌, ℕ, List, IfOk, subst, rules}
use Rattle.explanations.specs.Explained.{Begins}
use Rattle.explained_words.specs.Explained.{refused_script}
use Rattle.explained_words.proofs.script.refused_text.Goals as goal

pub returns-in-Ok : goal.returns-in-Ok
returns-in-Ok c =
    let line : c.as_bytes.result.now ≡ refused_script c.args.number = search rules in
    subst (λ (head : List ℕ). IfOk c.joined.result (λ text. Begins head text.items)) line c.joined.ensures.begins
