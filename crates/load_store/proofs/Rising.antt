-- Lists whose numbers rise and whose stores are sized: after one more, after some less, after one is resolved.
use Rattle.std.proofs.Common.{◌≡◌, ℕ, ◌<◌, ◌==◌, leb, Bool, true, false, cond, Some, List, [], ◌∷◌, ◌++◌, map, filter}
use Rattle.std.proofs.Common.{refl, ap}
use Rattle.std.specs.List.{AllByRecursion}
use Rattle.events.specs.declared.effect.Written.{Written}
use Rattle.rv_execute.specs.Access.{IsSize}
use Rattle.load_store.specs.{declared.load.Load.Load, declared.load.FirstLook.FirstLook, declared.store.Store.Store}
use Rattle.load_store.specs.Queues.{Above, IsRising, load_numbers, numbers, IsSized, load_stays, stays, resolved}
use Rattle.load_store.specs.Queues.{looking, touched_load}

-- one more
pub AllByRecursion-push : {X : Type 0} (P : X → Type 0) (xs : List X) (y : X) → AllByRecursion P xs → P y
    → AllByRecursion P (xs ++ y ∷ [])
AllByRecursion-push P [] y all here = (here, tt)
AllByRecursion-push P (x ∷ xs) y all here = (all.0, AllByRecursion-push P xs y all.1 here)

pub IsRising-push : (xs : List ℕ) (y : ℕ) → IsRising xs → Above y xs → IsRising (xs ++ y ∷ [])
IsRising-push [] y rising above = (tt, tt)
IsRising-push (x ∷ xs) y rising above =
    (AllByRecursion-push (λ z. x < z) xs y rising.0 above.0, IsRising-push xs y rising.1 above.1)

pub numbers-push : (xs : List Store) (y : Store) → numbers (xs ++ y ∷ []) ≡ numbers xs ++ y.seq ∷ []
numbers-push [] y = refl
numbers-push (x ∷ xs) y = ap (λ ns. x.seq ∷ ns) (numbers-push xs y)

pub load_numbers-push : (xs : List Load) (y : Load) → load_numbers (xs ++ y ∷ []) ≡ load_numbers xs ++ y.seq ∷ []
load_numbers-push [] y = refl
load_numbers-push (x ∷ xs) y = ap (λ ns. x.seq ∷ ns) (load_numbers-push xs y)

-- some less
pub AllByRecursion-filter : {X : Type 0} (P : X → Type 0) (test : X → Bool) (xs : List X) → AllByRecursion P xs
    → AllByRecursion P (filter test xs)
AllByRecursion-filter P test [] all = tt
AllByRecursion-filter P test (x ∷ xs) all =
    elim (test x) as (λ b. AllByRecursion P (cond b (x ∷ filter test xs) (filter test xs)))
    [ true ↦ (all.0, AllByRecursion-filter P test xs all.1) | false ↦ AllByRecursion-filter P test xs all.1 ]

pub IsRising-filter : (test : ℕ → Bool) (xs : List ℕ) → IsRising xs → IsRising (filter test xs)
IsRising-filter test [] rising = tt
IsRising-filter test (x ∷ xs) rising =
    elim (test x) as (λ b. IsRising (cond b (x ∷ filter test xs) (filter test xs))) [
      | true ↦ (AllByRecursion-filter (λ y. x < y) test xs rising.0, IsRising-filter test xs rising.1)
      | false ↦ IsRising-filter test xs rising.1
    ]

pub numbers-filter : (after : ℕ) (xs : List Store)
    → filter (λ x. leb x after) (numbers xs) ≡ numbers (filter (stays after) xs)
numbers-filter after [] = refl
numbers-filter after (x ∷ xs) =
    let rest = filter (λ y. leb y after) (numbers xs) in
    elim (leb x.seq after) as (λ b. cond b (x.seq ∷ rest) rest
    ≡ numbers (cond b (x ∷ filter (stays after) xs) (filter (stays after) xs)))
    [ true ↦ ap (λ ns. x.seq ∷ ns) (numbers-filter after xs) | false ↦ numbers-filter after xs ]

pub load_numbers-filter : (after : ℕ) (xs : List Load)
    → filter (λ x. leb x after) (load_numbers xs) ≡ load_numbers (filter (load_stays after) xs)
load_numbers-filter after [] = refl
load_numbers-filter after (x ∷ xs) =
    let rest = filter (λ y. leb y after) (load_numbers xs) in
    elim (leb x.seq after) as (λ b. cond b (x.seq ∷ rest) rest
    ≡ load_numbers (cond b (x ∷ filter (load_stays after) xs) (filter (load_stays after) xs)))
    [ true ↦ ap (λ ns. x.seq ∷ ns) (load_numbers-filter after xs) | false ↦ load_numbers-filter after xs ]

-- one has looked, or some were touched
seq-looking : (seq : ℕ) (look : FirstLook) (x : Load) → (looking seq look x).seq ≡ x.seq
seq-looking seq look x =
    elim (x.seq == seq) as (λ b. (cond b (record x { look = Some look }) x).seq ≡ x.seq) [ true ↦ refl | false ↦ refl ]

pub load_numbers-looking : (seq : ℕ) (look : FirstLook) (xs : List Load)
    → load_numbers (map (looking seq look) xs) ≡ load_numbers xs
load_numbers-looking seq look [] = refl
load_numbers-looking seq look (x ∷ xs) =
    rw (seq-looking seq look x) (ap (λ ns. x.seq ∷ ns) (load_numbers-looking seq look xs))

pub load_numbers-touched : (w : Written) (xs : List Load) → load_numbers (map (touched_load w) xs) ≡ load_numbers xs
load_numbers-touched w [] = refl
load_numbers-touched w (x ∷ xs) = ap (λ ns. x.seq ∷ ns) (load_numbers-touched w xs)

-- one resolved
seq-resolved : (seq : ℕ) (w : Written) (x : Store) → (resolved seq w x).seq ≡ x.seq
seq-resolved seq w x =
    elim (x.seq == seq) as (λ b. (cond b (record x { write = Some w }) x).seq ≡ x.seq) [ true ↦ refl | false ↦ refl ]

pub numbers-resolved : (seq : ℕ) (w : Written) (xs : List Store) → numbers (map (resolved seq w) xs) ≡ numbers xs
numbers-resolved seq w [] = refl
numbers-resolved seq w (x ∷ xs) = rw (seq-resolved seq w x) (ap (λ ns. x.seq ∷ ns) (numbers-resolved seq w xs))

sized-resolved : (seq : ℕ) (w : Written) (x : Store) → IsSize w.n → IsSized x → IsSized (resolved seq w x)
sized-resolved seq w x sized was =
    elim (x.seq == seq) as (λ b. IsSized (cond b (record x { write = Some w }) x)) [ true ↦ sized | false ↦ was ]

pub all-resolved : (seq : ℕ) (w : Written) (xs : List Store) → IsSize w.n → AllByRecursion IsSized xs
    → AllByRecursion IsSized (map (resolved seq w) xs)
all-resolved seq w [] sized all = tt
all-resolved seq w (x ∷ xs) sized all = (sized-resolved seq w x sized all.0, all-resolved seq w xs sized all.1)
