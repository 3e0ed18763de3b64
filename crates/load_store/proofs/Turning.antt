-- One turn of a loop that changes each load by a function of it.
use Rattle.std.proofs.Common.{◌≡◌, ℕ, ◌+◌, ◌<◌, List, ◌++◌, map, length, get_or, set, take, drop, ap, ◌∙◌, arith}
use Rattle.std.proofs.lemmas.List.{get_or_default}
use Rattle.std.proofs.lemmas.List.Edits.{map_over_more}
use Rattle.load_store.specs.declared.load.Load.{Load}

pub turned : (f : Load → Load) (xs ys : List Load) (i : ℕ) (d y : Load) → i < length xs → length ys ≡ length xs
    → ys ≡ map f (take i xs) ++ drop i xs → y ≡ f (get_or ys i d)
    → set ys i y ≡ map f (take (i + 1) xs) ++ drop (i + 1) xs
turned f xs ys i d y inside same so_far is =
    ap (set ys i) is
    ∙ map_over_more f xs ys i (get_or ys i d) inside so_far (get_or_default ys i d (get_or ys i d) (omega arith))
