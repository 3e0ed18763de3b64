-- The outcomes of a search's ends, one after another.
use Rattle.std.specs.Prelude.{◌≡◌, ◌⊎◌, ℕ, ◌+◌, ◌<◌, ◌≤◌, List, length, Contains, Some, None, slice_get, slice_index_or}
use Rattle.std.proofs.Common.{◌∙◌, sym, ap, subst, inl, inr, arith}
use Rattle.std.proofs.lemmas.Bool.{cases_lt}
use Rattle.std.proofs.lemmas.Option.{slice_get_within, slice_get-get_or}
use Rattle.searches.proofs.Places.{same_element, contains_at, place_of}
use Rattle.condensed_machine.specs.{Machine.Machine, declared.state.State.State}
use Rattle.outcomes.specs.declared.{listed.Listed.Listed}
use Rattle.watched_outcomes.specs.declared.{watch.Watch.Watch}
use Rattle.outcomes.specs.{Lists.HasEnding, Lists.IsPut}
use Rattle.watched_outcomes.specs.{Endings.Ending}
use Rattle.outcomes.specs.Collected.{ending_at, IsOfEnd, AreOutcomes}

-- Of the ends before a place each outcome is listed, and nothing else.
pub record AreOutcomesBefore (m : Machine) (watch : Watch) (states : List State) (ends : List ℕ) (place : ℕ)
    (listed : List Listed) : Type 0 where
  pub all : (k p : ℕ) (s : State) → k < place → slice_get ends k ≡ Some p → slice_get states p ≡ Some s
      → HasEnding listed (ending_at m watch s)
  pub each : (l : Listed) → Contains listed l → IsOfEnd m watch states ends l

still_has : (old new : List Listed) (more : Listed) (e : Ending) → IsPut old more new → HasEnding old e
    → HasEnding new e
still_has old new more e put has = (has.0, put.keeps has.0 has.1, has.2)

pub one_more : (m : Machine) (watch : Watch) (states : List State) (ends : List ℕ) (place p : ℕ) (s : State)
    (more : Listed) (old new : List Listed) → slice_get ends place ≡ Some p → slice_get states p ≡ Some s
    → more.place ≡ p → more.outcome ≡ ending_at m watch s → IsPut old more new
    → AreOutcomesBefore m watch states ends place old → AreOutcomesBefore m watch states ends (place + 1) new
one_more m watch states ends place p s more old new at_end at is_place is put before = record {
  all = λ k q t below at_k at_q. by k q t at_k at_q (cases_lt k place) below;
  each = λ l c. from l (put.only l c);
}
  where
    by : (k q : ℕ) (t : State) → slice_get ends k ≡ Some q → slice_get states q ≡ Some t
        → (k < place) ⊎ (place ≤ k) → k < place + 1 → HasEnding new (ending_at m watch t)
    by k q t at_k at_q (inl below) within =
        still_has old new more (ending_at m watch t) put (before.all k q t below at_k at_q)
    by k q t at_k at_q (inr beyond) within =
        let here : k ≡ place = omega arith in
        let same : p ≡ q = same_element ends place p q at_end (subst (λ n. slice_get ends n ≡ Some q) here at_k) in
        let one : s ≡ t = same_element states q s t (subst (λ n. slice_get states n ≡ Some s) same at) at_q in
        subst (λ e. HasEnding new e) (is ∙ ap (ending_at m watch) one) put.has

    from : (l : Listed) → Contains old l ⊎ (l ≡ more) → IsOfEnd m watch states ends l
    from l (inl c) = before.each l c
    from l (inr same) = subst (IsOfEnd m watch states ends) (sym same) (record {
      state = s;
      is_end = contains_at ends place more.place (at_end ∙ ap Some (sym is_place));
      at = ap (slice_get states) is_place ∙ at;
      is = is;
    })

pub no_more : (m : Machine) (watch : Watch) (states : List State) (ends : List ℕ) (place p : ℕ)
    (listed : List Listed) → slice_get ends place ≡ Some p → slice_get states p ≡ None
    → AreOutcomesBefore m watch states ends place listed → AreOutcomesBefore m watch states ends (place + 1) listed
no_more m watch states ends place p listed at_end none before = record {
  all = λ k q t below at_k at_q. by k q t at_k at_q (cases_lt k place) below;
  each = before.each;
}
  where
    by : (k q : ℕ) (t : State) → slice_get ends k ≡ Some q → slice_get states q ≡ Some t
        → (k < place) ⊎ (place ≤ k) → k < place + 1 → HasEnding listed (ending_at m watch t)
    by k q t at_k at_q (inl below) within = before.all k q t below at_k at_q
    by k q t at_k at_q (inr beyond) within =
        let here : k ≡ place = omega arith in
        let same : p ≡ q = same_element ends place p q at_end (subst (λ n. slice_get ends n ≡ Some q) here at_k) in
        let is : slice_get states q ≡ None = subst (λ n. slice_get states n ≡ None) same none in
        absurd (grind (arith, is, at_q))

pub all_listed : (m : Machine) (watch : Watch) (states : List State) (ends : List ℕ) (place : ℕ)
    (listed : List Listed) → length ends ≤ place → AreOutcomesBefore m watch states ends place listed
    → AreOutcomes m watch states ends listed
all_listed m watch states ends place listed over before = record {
  all = λ p s c at. at_place p s (place_of ends p c) at;
  each = before.each;
}
  where
    at_place : (p : ℕ) (s : State) → (k : ℕ) × (slice_get ends k ≡ Some p) → slice_get states p ≡ Some s
        → HasEnding listed (ending_at m watch s)
    at_place p s there at =
        let inside = slice_get_within ends there.0 p there.1 in
        before.all there.0 p s (omega arith) there.1 at

-- The end at a place of the list, as two looks at the list tell it.
pub end_at : (ends one two : List ℕ) (k : ℕ) → one ≡ ends → two ≡ ends → k < length one
    → slice_get ends k ≡ Some (slice_index_or two k 0)
end_at ends one two k same_one same_two inside =
    slice_get-get_or ends k 0 (omega (arith, ap length same_one))
    ∙ ap (λ (xs : List ℕ). Some (slice_index_or xs k 0)) (sym same_two)
