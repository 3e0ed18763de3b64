-- One turn of the loop that gathers a hart's renamings.
use Rattle.std.specs.Prelude.{◌≡◌, ℕ, ◌+◌, ◌<◌, ◌==◌, if◌then◌else◌, List, [], ◌∷◌, ◌++◌, length}
use Rattle.std.proofs.Common.{◌∙◌, refl, ap, take, get_or}
use Rattle.std.proofs.lemmas.List.{take_more}
use Rattle.rename_map.specs.Maps.{renamed_by}
use Rattle.retire_squash.specs.declared.active.Active.{Active}
use Rattle.smt_model.specs.Steps.{renamed_map}
use Rattle.core_parts.specs.Squash.{mapped_by}

pub mapped_by-concat : (r : ℕ) (xs ys : List Active) (before : ℕ)
    → mapped_by r (xs ++ ys) before ≡ mapped_by r ys (mapped_by r xs before)
mapped_by-concat r [] ys before = refl
mapped_by-concat r (x ∷ xs) ys before = mapped_by-concat r xs ys (renamed_map x.rd x.phys r before)

mapped_by-append : (r : ℕ) (xs : List Active) (a : Active) (before : ℕ)
    → mapped_by r (xs ++ a ∷ []) before ≡ renamed_map a.rd a.phys r (mapped_by r xs before)
mapped_by-append r xs a before = mapped_by-concat r xs (a ∷ []) before

pub mapped_by_more : (r : ℕ) (xs : List Active) (i : ℕ) (d : Active) (before : ℕ) → i < length xs
    → mapped_by r (take (i + 1) xs) before ≡ renamed_map (get_or xs i d).rd (get_or xs i d).phys r
    (mapped_by r (take i xs) before)
mapped_by_more r xs i d before inside =
    ap (λ ys. mapped_by r ys before) (take_more xs i d inside) ∙ mapped_by-append r (take i xs) (get_or xs i d) before

-- One renaming more.
pub renamed_by-append : (r : ℕ) (xs : List (ℕ × ℕ)) (x : ℕ × ℕ) (before : ℕ)
    → renamed_by (xs ++ x ∷ []) r before ≡ (if r == x.0 then x.1 else renamed_by xs r before)
renamed_by-append r [] x before = refl
renamed_by-append r (y ∷ ys) x before = renamed_by-append r ys x (if r == y.0 then y.1 else before)
