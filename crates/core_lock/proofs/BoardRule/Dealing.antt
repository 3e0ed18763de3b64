-- Cutting a seat's first own word off for a new seat keeps the rule.
use Rattle.std.proofs.Common.{◌≡◌, ℕ, ◌<◌, List, [], ◌∷◌, set, sym, ◌∙◌, subst}
use Rattle.std.proofs.Common.{inl, inr, ⊎_elim, arith, zero-le}
use mathlib.Core.Option.{some}
use lib.ListN.{get_elem?}
use Rattle.atomic_table.specs.Table.{Splits, State}
use Rattle.atomic_table.proofs.Lists.{at_set, at_longer}
use Rattle.core_lock.specs.declared.board.knowledge.Knowledge.{Knowledge}
use Rattle.core_lock.specs.{Knowledge.Owns, Knowledge.without_first, Knowledge.own_first}
use Rattle.core_lock.specs.{BoardRule.IsTrueOf, BoardRule.IsConsistent}
use Rattle.core_lock.proofs.BoardRule.Places.{at_end, had, asked_still}

-- What two halves know is true where the whole is.
module _ (words : List ℕ) (v : Knowledge) (some_word : v.first < v.end) (was : IsTrueOf words v) where
  left_true : IsTrueOf words (without_first v)
  left_true = record {
    sized = was.sized;
    below = was.below;
    own = λ word owns. was.own word (omega (arith, owns.0), owns.1);
    asked = was.asked;
    reason = was.reason;
  }

  right_true : IsTrueOf words (own_first v)
  right_true = record {
    sized = was.sized;
    below = was.below;
    own = λ word owns. was.own word (owns.0, omega (arith, owns.1, some_word));
    asked = zero-le;
    reason = zero-le;
  }

-- No other seat owns what is cut off.
clash : (words : List ℕ) (views : List Knowledge) (id j : ℕ) (v u : Knowledge) (word : ℕ) → IsConsistent words views
    → v.first < v.end → get_elem? views id ≡ some v
    → get_elem? (set views id (without_first v)) j ≡ some u → Owns u word → Owns (own_first v) word → ⊥
clash words views id j v u word consistent some_word here at owns cut =
    ⊎_elim
    (λ t.
    let left : Owns (without_first v) word = subst (λ (x : Knowledge). Owns x word) (sym t.1) owns in
    omega (arith, left.0, cut.1))
    (λ t. t.0 (consistent.apart j id u v word t.1 here owns (cut.0, omega (arith, cut.1, some_word))))
    (at_set views id j (without_first v) u at)

pub deals : (id : ℕ) (v : Knowledge) → v.first < v.end
    → Splits (λ (s : State ℕ Knowledge). IsConsistent s.words s.views) id v (without_first v) (own_first v)
deals id v some_word s consistent here =
    let left : Knowledge = without_first v in
    let right : Knowledge = own_first v in
    let views : List Knowledge = set s.views id left in
    let was : IsTrueOf s.words v = consistent.true_of id v here in
    let before = λ (j : ℕ) (u : Knowledge). had s.views id j v left u here
    (λ word owns. (omega (arith, owns.0), owns.1)) in
    record {
      sized = consistent.sized;
      true_of = λ j u at. ⊎_elim
          (λ old. ⊎_elim (λ t. subst (λ (x : Knowledge). IsTrueOf s.words x) t.1 (left_true s.words v some_word was))
          (λ t. consistent.true_of j u t.1) (at_set s.views id j left u old))
          (λ t. subst (λ (x : Knowledge). IsTrueOf s.words x) t.0 (right_true s.words v some_word was))
          (at_end views right u j at);
      apart = λ j k u x word at_j at_k owns_j owns_k. ⊎_elim
          (λ old_j. ⊎_elim
          (λ old_k. let a = before j u old_j in let b = before k x old_k in
          consistent.apart j k a.0 b.0 word a.1 b.1 (a.2 word owns_j) (b.2 word owns_k))
          (λ new_k. absurd (clash s.words s.views id j v u word consistent some_word here old_j owns_j
          (subst (λ (y : Knowledge). Owns y word) (sym new_k.0) owns_k)))
          (at_end views right x k at_k))
          (λ new_j. ⊎_elim
          (λ old_k. absurd (clash s.words s.views id k v x word consistent some_word here old_k owns_k
          (subst (λ (y : Knowledge). Owns y word) (sym new_j.0) owns_j)))
          (λ new_k. new_j.1 ∙ sym new_k.1) (at_end views right x k at_k))
          (at_end views right u j at_j);
      stop = ⊎_elim inl (λ t. inr (t.0, t.1, at_longer views (right ∷ []) t.0 t.1 t.2, t.3))
          (asked_still s.views id v left _ here (λ is. is) consistent.stop);
    }
