-- The three steps of a seat: a look, a post and an ask to stop.
use Rattle.std.proofs.Common.{◌≡◌, ℕ, ◌<◌, ◌≤◌, max, List, set, slice_index, sym, refl, ap, ◌∙◌, subst}
use Rattle.std.proofs.Common.{inl, inr, ⊎_elim, le_refl, arith, get_or-set_same, get_or-set_other}
use mathlib.Core.Option.{some}
use mathlib.Core.Logic.{dite}
use native.Mathlib.Decide.{dec_le}
use lib.ListN.{get_elem?}
use Rattle.atomic_table.specs.Table.{Me, Allows, Act, State}
use Rattle.core_lock.specs.declared.board.knowledge.Knowledge.{Knowledge}
use Rattle.core_lock.specs.Knowledge.{board_words, stop_word}
use Rattle.core_lock.specs.{Knowledge.Owns, Knowledge.saw, BoardRule.IsTrueOf, BoardRule.IsAskedFor, BoardRule.IsConsistent}
use Rattle.core_lock.specs.{BoardRule.IsLook, BoardRule.IsPost, BoardRule.IsStop}
use Rattle.core_lock.proofs.{BoardRule.Places.at_index, BoardRule.Places.set_there, BoardRule.Places.asked_still, BoardRule.Keeping.moved, BoardRule.Keeping.keeps}

-- The stop word is 4 at most.
pub few : (words : List ℕ) (views : List Knowledge) → IsConsistent words views → slice_index words stop_word ≤ 4
few words views consistent =
    ⊎_elim (λ none. omega (arith, none))
    (λ t. let r = (consistent.true_of t.0 t.1 t.2).reason in let e = t.3 in omega (arith, r, e)) consistent.stop

pub looks : (slots id : ℕ) (me : Me ℕ Knowledge) (i : ℕ) → i < board_words
    → Allows (λ (s : State ℕ Knowledge). IsConsistent s.words s.views) slots id me i (λ n. n)
    (λ found after. IsLook i me.0 found after.0)
looks slots id me i inside s consistent homes here small =
    let v : Knowledge = me.0 in
    let n : ℕ = slice_index s.words i in
    let was : IsTrueOf s.words v = consistent.true_of id v here in
    let asked : v.asked ≤ slice_index (set v.seen i n) stop_word =
    ⊎_elim
    (λ t. let b : slice_index v.seen stop_word ≤ n =
    subst (λ (j : ℕ). slice_index v.seen stop_word ≤ slice_index s.words j) t.0 (was.below stop_word) in
    let a = was.asked in omega (arith, t.1, a, b))
    (λ t. let a = was.asked in omega (arith, t.1, a)) (at_index v.seen i stop_word n (omega (arith, was.sized))) in
    let same : slice_index (set s.words i n) stop_word ≡ slice_index s.words stop_word =
    ⊎_elim (λ t. t.1 ∙ ap (λ (j : ℕ). slice_index s.words j) (sym t.0)) (λ t. t.1)
    (at_index s.words i stop_word n (omega (arith, consistent.sized))) in (
      saw v i n,
      Act.keeps,
      tt,
      keeps s.words s.views id v i n v.asked consistent here inside (le_refl n) (inr (λ low. refl)) asked was.reason
          (subst (λ (k : ℕ). IsAskedFor (set s.views id (saw v i n)) k) (sym same)
          (asked_still s.views id v (saw v i n) _ here (λ is. is) consistent.stop)),
      record {
        saw = refl;
        rises = was.below i;
        own = λ owns low. was.own i owns low;
        reason = λ is. subst (λ (j : ℕ). slice_index s.words j ≤ 4) (sym is) (few s.words s.views consistent);
      },
    )

pub posts : (slots id : ℕ) (me : Me ℕ Knowledge) (i new : ℕ) → i < stop_word → Owns me.0 i → slice_index me.0.seen i ≤ new
    → Allows (λ (s : State ℕ Knowledge). IsConsistent s.words s.views) slots id me i (λ n. new)
    (λ n after. IsPost i me.0 new after.0)
posts slots id me i new low mine rises s consistent homes here small =
    let v : Knowledge = me.0 in
    let was : IsTrueOf s.words v = consistent.true_of id v here in
    let is : slice_index s.words i ≡ slice_index v.seen i = was.own i mine low in
    let seen : slice_index (set v.seen i new) stop_word ≡ slice_index v.seen stop_word =
    get_or-set_other v.seen i stop_word new 0 (λ e. omega (arith, e, low)) in
    let same : slice_index (set s.words i new) stop_word ≡ slice_index s.words stop_word =
    get_or-set_other s.words i stop_word new 0 (λ e. omega (arith, e, low)) in (
      saw v i new,
      Act.keeps,
      tt,
      keeps s.words s.views id v i new v.asked consistent here (omega (arith, low)) (omega (arith, is, rises)) (inl mine)
          (let a = was.asked in omega (arith, a, seen)) was.reason
          (subst (λ (k : ℕ). IsAskedFor (set s.views id (saw v i new)) k) (sym same)
          (asked_still s.views id v (saw v i new) _ here (λ is. is) consistent.stop)),
      refl,
    )

-- The greater of what was found and of this seat's reason is what somebody has asked for.
raised : (views : List Knowledge) (id : ℕ) (v w : Knowledge) (n reason : ℕ) → get_elem? views id ≡ some v
    → v.asked ≤ n → w.asked ≡ max v.asked reason → IsAskedFor views n → IsAskedFor (set views id w) (max n reason)
raised views id v w n reason here low is asked =
    dite (dec_le reason n)
    (λ (small : reason ≤ n). subst (λ (k : ℕ). IsAskedFor (set views id w) k) (grind (arith, small))
    (asked_still views id v w n here (λ e. is ∙ grind (arith, e, small)) asked))
    (λ great. inr (id, w, set_there views id v w here, is ∙ grind (arith, great, low)))

pub stops : (slots id : ℕ) (me : Me ℕ Knowledge) (reason : ℕ) → reason ≤ 4
    → Allows (λ (s : State ℕ Knowledge). IsConsistent s.words s.views) slots id me stop_word (λ n. max n reason)
    (λ found after. IsStop reason me.0 found after.0)
stops slots id me reason small_reason s consistent homes here small =
    let v : Knowledge = me.0 in
    let n : ℕ = slice_index s.words stop_word in
    let new : ℕ = max n reason in
    let asked : ℕ = max v.asked reason in
    let was : IsTrueOf s.words v = consistent.true_of id v here in
    let low : v.asked ≤ n = (let a = was.asked in let b = was.below stop_word in omega (arith, a, b)) in
    let seen : slice_index (set v.seen stop_word new) stop_word ≡ new = get_or-set_same v.seen stop_word new 0 (omega (arith, was.sized)) in
    let now : slice_index (set s.words stop_word new) stop_word ≡ new =
    get_or-set_same s.words stop_word new 0 (omega (arith, consistent.sized)) in
    let w : Knowledge = moved v stop_word new asked in (
      w,
      Act.keeps,
      tt,
      keeps s.words s.views id v stop_word new asked consistent here (omega arith) (grind arith)
          (inr (λ (l : stop_word < stop_word). absurd (omega (arith, l))))
          (grind (arith, seen, low)) (grind (arith, was.reason, small_reason))
          (subst (λ (k : ℕ). IsAskedFor (set s.views id w) k) (sym now)
          (raised s.views id v w n reason here low refl consistent.stop)),
      record { asks = refl; rises = was.below stop_word; reason_found = few s.words s.views consistent },
    )
