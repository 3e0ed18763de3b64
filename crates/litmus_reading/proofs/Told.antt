-- What holds of the elements so far holds of all when they are over.
use Rattle.std.proofs.Common.{ℕ, ◌≤◌, List, length, take, All, subst}
use Rattle.std.proofs.lemmas.List.{take_all}

pub all_told : {A : Type 0} (P : A → Type 0) (all : List A) (i : ℕ) → length all ≤ i → All P (take i all) → All P all
all_told P all i past told = subst (λ (t : List _). All P t) (take_all i all past) told
