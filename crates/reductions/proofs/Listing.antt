-- Which texts are lists of reductions: there are four.
use Rattle.std.proofs.Common.{◌≡◌, ◌≢◌, ℕ, zero, suc, true, false, List, [], ◌∷◌, refl, sym, ap, ◌∙◌, arith}
use Rattle.std.specs.Prelude.{AllPairs, Contains, codes}
use Rattle.reductions.specs.{Names.has, Names.name_of, Names.IsWith, Lists.text_of, Lists.IsListed, Lists.IsNoList}
use Rattle.reductions.specs.declared.{reduction.Reduction.Reduction, without.Without.Without}
use Rattle.reductions.specs.declared.reduction.Reduction.TheVariants.{Conditional, Jumps}

-- ---- A list of one

alone_only : (old new : Without) (one : Reduction) → ((reduction : Reduction) → has old reduction ≡ false)
    → IsWith old one new → (reduction : Reduction) → has new reduction ≡ true → Contains (one ∷ []) reduction
alone_only old new Conditional none is Conditional has_it = (0, omega arith, refl)
alone_only old new Conditional none is Jumps has_it =
    let was : has new Jumps ≡ false = is.others Jumps (λ same. cc) ∙ none Jumps in cc
alone_only old new Jumps none is Conditional has_it =
    let was : has new Conditional ≡ false = is.others Conditional (λ same. cc) ∙ none Conditional in cc
alone_only old new Jumps none is Jumps has_it = (0, omega arith, refl)

alone_has : (old new : Without) (one : Reduction) → IsWith old one new
    → (reduction : Reduction) → Contains (one ∷ []) reduction → has new reduction ≡ true
alone_has old new one is reduction (zero, within, same) = ap (has new) (sym same) ∙ is.has_it
alone_has old new one is reduction (suc k, within, same) = absurd (omega arith)

pub one_listed : (text : List ℕ) (old new : Without) (one : Reduction)
    → ((reduction : Reduction) → has old reduction ≡ false) → IsWith old one new → text ≡ name_of one
    → IsListed text new
one_listed text old new one none is named = record {
  listed = one ∷ [];
  is = record { some = λ same. cc; once = λ i j d less within. absurd (omega arith); text_is = named };
  all = λ reduction. (alone_only old new one none is reduction, alone_has old new one is reduction);
}

-- ---- A list of both

apart_pairs : (one other : Reduction) → one ≢ other → AllPairs (λ a b. a ≢ b) (one ∷ other ∷ [])
apart_pairs one other apart zero (suc zero) d less within = apart
apart_pairs one other apart zero zero d less within = absurd (omega arith)
apart_pairs one other apart zero (suc (suc j)) d less within = absurd (omega arith)
apart_pairs one other apart (suc i) zero d less within = absurd (omega arith)
apart_pairs one other apart (suc i) (suc j) d less within = absurd (omega arith)

both_there : (one other reduction : Reduction) → one ≢ other → Contains (one ∷ other ∷ []) reduction
both_there Conditional Conditional reduction apart = absurd (apart refl)
both_there Conditional Jumps Conditional apart = (0, omega arith, refl)
both_there Conditional Jumps Jumps apart = (1, omega arith, refl)
both_there Jumps Conditional Conditional apart = (1, omega arith, refl)
both_there Jumps Conditional Jumps apart = (0, omega arith, refl)
both_there Jumps Jumps reduction apart = absurd (apart refl)

pub two_listed : (text : List ℕ) (without : Without) (one other : Reduction) → one ≢ other
    → ((reduction : Reduction) → has without reduction ≡ true) → text ≡ text_of (one ∷ other ∷ [])
    → IsListed text without
two_listed text without one other apart all named = record {
  listed = one ∷ other ∷ [];
  is = record { some = λ same. cc; once = apart_pairs one other apart; text_is = named };
  all = λ reduction. ((λ has_it. both_there one other reduction apart), (λ there. all reduction));
}

-- ---- No list

pub no_list : (text : List ℕ) → text ≢ codes "RX" → text ≢ codes "J" → text ≢ codes "RX,J" → text ≢ codes "J,RX"
    → IsNoList text
no_list text a b c d [] is = is.some refl
no_list text a b c d (Conditional ∷ []) is = a is.text_is
no_list text a b c d (Jumps ∷ []) is = b is.text_is
no_list text a b c d (Conditional ∷ Conditional ∷ xs) is = is.once 0 1 Jumps (omega arith) (omega arith) refl
no_list text a b c d (Jumps ∷ Jumps ∷ xs) is = is.once 0 1 Jumps (omega arith) (omega arith) refl
no_list text a b c d (Conditional ∷ Jumps ∷ []) is = c is.text_is
no_list text a b c d (Jumps ∷ Conditional ∷ []) is = d is.text_is
no_list text a b c d (Conditional ∷ Jumps ∷ Conditional ∷ xs) is =
    is.once 0 2 Jumps (omega arith) (omega arith) refl
no_list text a b c d (Conditional ∷ Jumps ∷ Jumps ∷ xs) is = is.once 1 2 Jumps (omega arith) (omega arith) refl
no_list text a b c d (Jumps ∷ Conditional ∷ Conditional ∷ xs) is = is.once 1 2 Jumps (omega arith) (omega arith) refl
no_list text a b c d (Jumps ∷ Conditional ∷ Jumps ∷ xs) is = is.once 0 2 Jumps (omega arith) (omega arith) refl
