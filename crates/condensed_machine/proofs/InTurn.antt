-- Local steps of harts in turn, as often as their row says.
use Rattle.std.proofs.Common.{◌≡◌, ◌≢◌, ℕ, zero, suc, ◌+◌, ◌<◌, ◌≤◌, List, [], ◌++◌, replicate, length}
use Rattle.std.proofs.Common.{refl, sym, ap, ap₂, ◌∙◌, arith, add-one, append-nil}
use Rattle.std.specs.Prelude.{slice_index, slice_set}
use Rattle.std.proofs.lemmas.List.{get_or-set_other, get_or-set_same}
use Rattle.numbers.specs.Sizes.{most_harts}
use Rattle.condensed_machine.specs.Steps.{turns, no_turns}

-- What a hart does later changes nothing of the turns before it.
pub turns_before : (ways : List ℕ) (g steps h : ℕ) → h ≤ g → turns (slice_set ways g steps) h ≡ turns ways h
turns_before ways g steps zero before = refl
turns_before ways g steps (suc h) before =
    let other : h ≢ g = omega (arith, before) in
    ap₂ (λ first way. first ++ replicate way h) (turns_before ways g steps h (omega (arith, before)))
    (get_or-set_other ways g h steps 0 other)

-- One more hart has made its turns.
pub turns_more : (ways : List ℕ) (g steps : ℕ) → g < length ways
    → turns (slice_set ways g steps) (g + 1) ≡ turns ways g ++ replicate steps g
turns_more ways g steps inside =
    let before : g ≤ g = omega arith in
    ap (turns (slice_set ways g steps)) (add-one g)
    ∙ ap₂ (λ first way. first ++ replicate way g) (turns_before ways g steps g before)
    (get_or-set_same ways g steps 0 inside)

-- One more hart has made none.
pub turns_same : (ways : List ℕ) (g : ℕ) → slice_index ways g ≡ 0 → turns ways (g + 1) ≡ turns ways g
turns_same ways g none =
    ap (turns ways) (add-one g) ∙ ap (λ way. turns ways g ++ replicate way g) none ∙ append-nil (turns ways g)

-- In a row of none nobody makes a turn.
all_zero : (n h : ℕ) → slice_index (replicate {A = ℕ} n 0) h ≡ 0
all_zero zero h = refl
all_zero (suc n) zero = refl
all_zero (suc n) (suc h) = all_zero n h

pub nobody_turns : (h : ℕ) → turns no_turns h ≡ []
nobody_turns zero = refl
nobody_turns (suc h) =
    ap₂ (λ first way. first ++ replicate {A = ℕ} way h) (nobody_turns h) (all_zero most_harts h)

-- Behind the hart that has made its turns nobody has.
pub none_behind : (ways : List ℕ) (g steps : ℕ) → ((h : ℕ) → g ≤ h → slice_index ways h ≡ 0)
    → (h : ℕ) → g + 1 ≤ h → slice_index (slice_set ways g steps) h ≡ 0
none_behind ways g steps none h beyond =
    let other : h ≢ g = omega (arith, beyond) in
    get_or-set_other ways g h steps 0 other ∙ none h (omega (arith, beyond))

pub none_yet : (h : ℕ) → slice_index no_turns h ≡ 0
none_yet = all_zero most_harts
