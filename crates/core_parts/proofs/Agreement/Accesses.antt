-- The loads and stores of an active list whose younger ones are cut, or that stays while nothing touches its loads.
use Rattle.std.specs.Prelude.{◌≡◌, ℕ, nat_le, Bool, List, [], ◌∷◌, map, filter}
use Rattle.std.proofs.Common.{◌∙◌, refl, sym, ap, inl, inr}
use Rattle.std.proofs.{lemmas.Bool.cases_Bool}
use Rattle.retire_squash.specs.declared.active.Active.{Active}
use Rattle.load_store.specs.{Queues.Queues, Queues.squashed, Queues.load_stays, Queues.stays}
use Rattle.load_store.specs.{declared.load.Load.Load, declared.store.Store.Store}
use Rattle.core_parts.specs.Accesses.{is_load, is_store, look_at, load_of, store_of, accesses_of}
use Rattle.core_parts.specs.Squash.{older}

abbrev pub loads_of : (ℕ → Bool) → List Active → List Load
loads_of t xs = map (load_of t) (filter is_load xs)

abbrev pub stores_of : List Active → List Store
stores_of xs = map store_of (filter is_store xs)

-- Queues of the same loads and the same stores are the same.
abbrev queues : List Load → List Store → Queues
queues loads stores = record { loads = loads; stores = stores }

pub both : (one two : List Load) (three four : List Store) → one ≡ two → three ≡ four → queues one three ≡ queues two four
both one two three four loads stores = ap (λ l. queues l three) loads ∙ ap (queues two) stores

loads_squashed : (t : ℕ → Bool) (n : ℕ) (xs : List Active)
    → loads_of t (older n xs) ≡ filter (load_stays n) (loads_of t xs)
loads_squashed t n [] = refl
loads_squashed t n (x ∷ xs) = elim (cases_Bool (nat_le x.seq n)) [
  | inl old ↦ elim (cases_Bool (is_load x)) [
    | inl loads ↦ rw (old, loads) (rw old (ap (λ ns. load_of t x ∷ ns) (loads_squashed t n xs)))
    | inr f ↦ rw (old, f) (loads_squashed t n xs)
  ]
  | inr young ↦ elim (cases_Bool (is_load x)) [
    | inl loads ↦ rw (young, loads) (rw young (loads_squashed t n xs))
    | inr f ↦ rw (young, f) (loads_squashed t n xs)
  ]
]

stores_squashed : (n : ℕ) (xs : List Active) → stores_of (older n xs) ≡ filter (stays n) (stores_of xs)
stores_squashed n [] = refl
stores_squashed n (x ∷ xs) = elim (cases_Bool (nat_le x.seq n)) [
  | inl old ↦ elim (cases_Bool (is_store x)) [
    | inl t ↦ rw (old, t) (rw old (ap (λ ns. store_of x ∷ ns) (stores_squashed n xs)))
    | inr f ↦ rw (old, f) (stores_squashed n xs)
  ]
  | inr young ↦ elim (cases_Bool (is_store x)) [
    | inl t ↦ rw (young, t) (rw young (stores_squashed n xs))
    | inr f ↦ rw (young, f) (stores_squashed n xs)
  ]
]

pub accesses_squashed : (t : ℕ → Bool) (n : ℕ) (xs : List Active)
    → accesses_of t (older n xs) ≡ squashed n (accesses_of t xs)
accesses_squashed t n xs = both _ _ _ _ (loads_squashed t n xs) (stores_squashed n xs)

-- ---- Nothing is touched

loads_same : (t u : ℕ → Bool) → ((s : ℕ) → u s ≡ t s) → (xs : List Active) → loads_of t xs ≡ loads_of u xs
loads_same t u same [] = refl
loads_same t u same (x ∷ xs) =
    let one : load_of t x ≡ load_of u x = ap (λ b. record { seq = x.seq; look = look_at x.op b x.stage }) (sym (same x.seq)) in
    elim (cases_Bool (is_load x)) [
      | inl loads ↦ rw loads (ap (λ l. l ∷ loads_of t xs) one ∙ ap (λ ls. load_of u x ∷ ls) (loads_same t u same xs))
      | inr f ↦ rw f (loads_same t u same xs)
    ]

pub accesses_same : (t u : ℕ → Bool) → ((s : ℕ) → u s ≡ t s) → (xs : List Active)
    → accesses_of t xs ≡ accesses_of u xs
accesses_same t u same xs = both _ _ _ _ (loads_same t u same xs) refl
