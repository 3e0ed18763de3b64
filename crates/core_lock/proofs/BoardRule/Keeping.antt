-- A step on one word keeps the rule.
use Rattle.std.proofs.Common.{◌≡◌, ℕ, ◌<◌, ◌≤◌, ◌⊎◌, List, length, set, slice_index, sym, ap, ◌∙◌, subst, ⊎_elim, arith}
use Rattle.std.proofs.Common.{length-set}
use mathlib.Core.Option.{some}
use lib.ListN.{get_elem?}
use Rattle.atomic_table.proofs.Lists.{at_set}
use Rattle.core_lock.specs.declared.board.knowledge.Knowledge.{Knowledge}
use Rattle.core_lock.specs.Knowledge.{board_words, stop_word}
use Rattle.core_lock.specs.{Knowledge.Owns, BoardRule.IsTrueOf, BoardRule.IsAskedFor, BoardRule.IsConsistent}
use Rattle.core_lock.proofs.BoardRule.Places.{at_index, had}

-- What a seat knows after a step of its own.
abbrev pub moved : Knowledge → ℕ → ℕ → ℕ → Knowledge
moved v word number asked = record { first = v.first; end = v.end; asked = asked; seen = set v.seen word number }

-- It is true of the words after the step.
own_true : (words : List ℕ) (v : Knowledge) (i new asked : ℕ) → length words ≡ board_words → i < board_words → IsTrueOf words v
    → asked ≤ slice_index (set v.seen i new) stop_word → asked ≤ 4 → IsTrueOf (set words i new) (moved v i new asked)
own_true words v i new asked sized inside was seen few = record {
  sized = length-set _ _ _ ∙ was.sized;
  below = λ k. ⊎_elim
      (λ s. ⊎_elim (λ t. omega (arith, s.1, t.1)) (λ t. absurd (t.0 s.0))
      (at_index v.seen i k new (omega (arith, was.sized))))
      (λ s. ⊎_elim (λ t. absurd (s.0 t.0)) (λ t. let b = was.below k in omega (arith, s.1, t.1, b))
      (at_index v.seen i k new (omega (arith, was.sized)))) (at_index words i k new (omega (arith, sized)));
  own = λ k owns low. ⊎_elim
      (λ s. ⊎_elim (λ t. s.1 ∙ sym t.1) (λ t. absurd (t.0 s.0)) (at_index v.seen i k new (omega (arith, was.sized))))
      (λ s. ⊎_elim (λ t. absurd (s.0 t.0)) (λ t. s.1 ∙ was.own k owns low ∙ sym t.1)
      (at_index v.seen i k new (omega (arith, was.sized)))) (at_index words i k new (omega (arith, sized)));
  asked = seen;
  reason = few;
}

-- What another seat knows stays true, where the word rises and isn't a count of its own, or stays.
other_true : (words : List ℕ) (u : Knowledge) (i new : ℕ) → length words ≡ board_words → i < board_words → IsTrueOf words u
    → slice_index words i ≤ new → (Owns u i → i < stop_word → new ≡ slice_index words i) → IsTrueOf (set words i new) u
other_true words u i new sized inside was rises same = record {
  sized = was.sized;
  below = λ k. ⊎_elim
      (λ s. let b : slice_index u.seen k ≤ slice_index words i =
      subst (λ (j : ℕ). slice_index u.seen k ≤ slice_index words j) s.0 (was.below k) in
      omega (arith, s.1, b, rises))
      (λ s. let b = was.below k in omega (arith, s.1, b)) (at_index words i k new (omega (arith, sized)));
  own = λ k owns low. ⊎_elim
      (λ s. s.1 ∙ same (subst (λ (j : ℕ). Owns u j) s.0 owns) (subst (λ (j : ℕ). j < stop_word) s.0 low)
      ∙ ap (λ (j : ℕ). slice_index words j) (sym s.0) ∙ was.own k owns low)
      (λ s. s.1 ∙ was.own k owns low) (at_index words i k new (omega (arith, sized)));
  asked = was.asked;
  reason = was.reason;
}

-- The rule is consistent by a step that raises a word of the seat's own or the stop word, or leaves the word as it is.
pub keeps : (words : List ℕ) (views : List Knowledge) (id : ℕ) (v : Knowledge) (i new asked : ℕ) → IsConsistent words views
    → get_elem? views id ≡ some v → i < board_words → slice_index words i ≤ new
    → Owns v i ⊎ (i < stop_word → new ≡ slice_index words i) → asked ≤ slice_index (set v.seen i new) stop_word → asked ≤ 4
    → IsAskedFor (set views id (moved v i new asked)) (slice_index (set words i new) stop_word)
    → IsConsistent (set words i new) (set views id (moved v i new asked))
keeps words views id v i new asked consistent here inside rises may seen few stop =
    let w : Knowledge = moved v i new asked in
    record {
      sized = length-set _ _ _ ∙ consistent.sized;
      true_of = λ j u at. ⊎_elim
          (λ t. subst (λ (x : Knowledge). IsTrueOf (set words i new) x) t.1
          (own_true words v i new asked consistent.sized inside (consistent.true_of id v here) seen few))
          (λ t. other_true words u i new consistent.sized inside (consistent.true_of j u t.1) rises
          (λ owns low. ⊎_elim (λ mine. absurd (t.0 (consistent.apart j id u v i t.1 here owns mine))) (λ same. same low) may))
          (at_set views id j w u at);
      apart = λ j k u x word at_j at_k owns_j owns_k.
          let a = had views id j v w u here (λ k owns. owns) at_j in
          let b = had views id k v w x here (λ k owns. owns) at_k in
          consistent.apart j k a.0 b.0 word a.1 b.1 (a.2 word owns_j) (b.2 word owns_k);
      stop = stop;
    }
