-- The moves that the origins tell.
use Rattle.std.proofs.Common.{◌≡◌, ℕ, zero, suc, ◌+◌, ◌≤◌, List, [], ◌∷◌, ◌++◌, length}
use Rattle.std.proofs.Common.{slice_get, Option, None, Some, refl, sym, ap, subst, ◌∙◌, arith, length-append}
use Rattle.std.proofs.lemmas.List.{reverse-append}
use Rattle.std.proofs.Common.{reverse, append_assoc}
use Rattle.searches.specs.declared.moves.Move.{Move}
use Rattle.searches.specs.declared.origin.Origin.{Origin}
use Rattle.searches.specs.declared.step.Step.{Step}
use Rattle.searches.specs.Orders.{Leads}
use Rattle.searches.specs.Found.{moves_behind, moves_within, moves_at}

abbrev pub move_of : {W : Type 0} → Origin W → Move W
move_of o = record { hart = o.hart; way = o.way }

-- One more move behind others.
pub Leads-push : {S W : Type 0} (Steps : S → ℕ → Option (Step S W) → Type 0) (s : S) (moves : List (Move W)) (t u : S)
    (m : Move W) → Leads Steps s moves t → Steps t m.hart (Some (record { state = u; way = m.way }))
    → Leads Steps s (moves ++ m ∷ []) u
Leads-push {S} {W} Steps s [] t u m e next =
    (u, subst (λ (x : S). Steps x m.hart (Some (record { state = u; way = m.way }))) (sym e) next, refl)
Leads-push Steps s (g ∷ moves) t u m l next = (l.0, l.1, Leads-push Steps l.0 moves t u m l.2 next)

module _ {W : Type 0} (origins : List (Origin W))
    (before : (k : ℕ) (o : Origin W) → slice_get origins k ≡ Some o → o.parent ≤ k) where
  -- Turns beyond the place change nothing.
  enough : (m n place : ℕ) → place ≤ m → place ≤ n → moves_within m origins place ≡ moves_within n origins place
  enough zero zero place a b = refl
  enough zero (suc n) zero a b = refl
  enough zero (suc n) (suc k) a b = absurd (omega (arith, a))
  enough (suc m) zero zero a b = refl
  enough (suc m) zero (suc k) a b = absurd (omega (arith, b))
  enough (suc m) (suc n) zero a b = refl
  enough (suc m) (suc n) (suc k) a b = by (slice_get origins k) refl (λ p c d. enough m n p c d)
    where
      by : (r : Option (Origin W)) → slice_get origins k ≡ r
          → ((p : ℕ) → p ≤ m → p ≤ n → moves_within m origins p ≡ moves_within n origins p)
          → moves_behind (λ parent. moves_within m origins parent) r ≡ moves_behind
          (λ parent. moves_within n origins parent) r
      by None e rest = refl
      by (Some o) e rest =
          let p = before k o e in
          ap (λ (l : List (Move W)). l ++ move_of o ∷ []) (rest o.parent (omega (arith, p, a)) (omega (arith, p, b)))

  -- The moves to a state are those to its parent, and then the hart's step.
  pub moves_at-step : (k : ℕ) (o : Origin W) → slice_get origins k ≡ Some o
      → moves_at origins (k + 1) ≡ moves_at origins o.parent ++ move_of o ∷ []
  moves_at-step k o e =
      ap (λ n. moves_at origins n) step
      ∙ ap (λ (r : Option (Origin W)). moves_behind (λ parent. moves_within k origins parent) r) e
      ∙ ap (λ (l : List (Move W)). l ++ move_of o ∷ []) (enough k o.parent o.parent (before k o e) (omega arith))
    where
      step : k + 1 ≡ suc k
      step = omega arith

  pub length-step : (k : ℕ) (o : Origin W) → slice_get origins k ≡ Some o
      → length (moves_at origins (k + 1)) ≡ length (moves_at origins o.parent) + 1
  length-step k o e = ap length (moves_at-step k o e) ∙ length-append (moves_at origins o.parent) (move_of o ∷ [])

  -- One more step back along the origins.
  pub told_step : (place at k : ℕ) (o : Origin W) (got more : List (Move W)) → at ≡ k + 1 → slice_get origins k ≡ Some o
      → more ≡ got ++ move_of o ∷ [] → moves_at origins place ≡ moves_at origins at ++ reverse got
      → moves_at origins place ≡ moves_at origins o.parent ++ reverse more
  told_step place at k o got more here e pushed told =
      told ∙ ap (λ n. moves_at origins n ++ reverse got) here
      ∙ ap (λ (l : List (Move W)). l ++ reverse got) (moves_at-step k o e)
      ∙ append_assoc (moves_at origins o.parent) (move_of o ∷ []) (reverse got)
      ∙ ap (λ (l : List (Move W)). moves_at origins o.parent ++ l) (sym (reverse-append got (move_of o ∷ [])))
      ∙ ap (λ (l : List (Move W)). moves_at origins o.parent ++ reverse l) (sym pushed)
