-- The lines that a loop over numbers writes.
use Rattle.std.proofs.Common.{◌≡◌, ◌+◌, ℕ, suc, List, [], ◌++◌, flat_map, Option, sym, ap, subst, ◌∙◌, arith}
use Rattle.std.specs.Io.KnownBytes.{Appends}
use Rattle.std.proofs.lemmas.List.{flat_map_more}
use Rattle.text_fields.proofs.Appending.{appends_more}
use Rattle.smt_model.specs.{Basics.below}

-- a turn of a loop over the numbers below a number
pub below_step : (text : ℕ → List ℕ) (old mid new : Option (List ℕ)) (n : ℕ)
    → Appends old mid (flat_map text (below n)) → Appends mid new (text n)
    → Appends old new (flat_map text (below (n + 1)))
below_step text old mid new n first next =
    let on : n + 1 ≡ suc n = omega arith in
    let more : flat_map text (below (n + 1)) ≡ flat_map text (below n) ++ text n =
    ap (λ m. flat_map text (below m)) on ∙ sym (flat_map_more text [] (below n) n) in
    subst (λ t. Appends old new t) (sym more) (appends_more old mid new _ _ first next)
