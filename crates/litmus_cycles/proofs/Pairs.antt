-- Events by their places in a list: what all pass, or all pairs; and what is known of a candidate.
use Rattle.std.proofs.Common.{◌≡◌, ℕ, zero, suc, ◌<◌, ◌≤◌, ◌==◌, ◌&&◌, ◌||◌, nat_lt, Bool, true, false, ◌⊎◌, inl, inr}
use Rattle.std.proofs.Common.{List, [], ◌∷◌, slice_get, Some, sym, ◌∙◌, arith, subst, ap, refl, true≢false}
use Rattle.std.specs.List.{list_all, list_any}
use Rattle.std.proofs.lemmas.Bool.{and_parts, and_cases, ltb-true, ltb-false, cases_Bool, or_right}
use Rattle.litmus_tests.specs.declared.test.LitmusTest.{LitmusTest}
use Rattle.litmus_cycles.specs.declared.event.MemoryEvent.{MemoryEvent}
use Rattle.litmus_cycles.specs.Executions.{all_pairs, is_before, is_made, is_sourced, is_ranked, are_apart, is_failing, is_candidate}

pub all_at : {X : Type 0} (p : X → Bool) (xs : List X) (i : ℕ) (x : X) → list_all p xs ≡ true → slice_get xs i ≡ Some x
    → p x ≡ true
all_at p [] i x all at = cc
all_at p (y ∷ ys) zero x all at =
    let e : y ≡ x = cc in
    ap p (sym e) ∙ (and_parts (p y) (list_all p ys) all).0
all_at p (y ∷ ys) (suc i) x all at = all_at p ys i x (and_parts (p y) (list_all p ys) all).1 at

pub any_at : {X : Type 0} (p : X → Bool) (xs : List X) (i : ℕ) (x : X) → slice_get xs i ≡ Some x → p x ≡ true
    → list_any p xs ≡ true
any_at p [] i x at is_so = cc
any_at p (y ∷ ys) zero x at is_so =
    let e : y ≡ x = cc in
    ap (λ b. b || list_any p ys) (ap p e ∙ is_so)
any_at p (y ∷ ys) (suc i) x at is_so = or_right (p y) (list_any p ys) (any_at p ys i x at is_so)

pub pair_at : (p : MemoryEvent → MemoryEvent → Bool) (xs : List MemoryEvent) (i j : ℕ) (a b : MemoryEvent)
    → all_pairs p xs ≡ true → slice_get xs i ≡ Some a → slice_get xs j ≡ Some b → i < j → p a b ≡ true
pair_at p [] i j a b all at to less = cc
pair_at p (y ∷ ys) zero zero a b all at to less = absurd (omega (arith, less))
pair_at p (y ∷ ys) zero (suc j) a b all at to less =
    let e : y ≡ a = cc in
    subst (λ z. p z b ≡ true) e (all_at (p y) ys j b (and_parts (list_all (p y) ys) (all_pairs p ys) all).0 to)
pair_at p (y ∷ ys) (suc i) zero a b all at to less = absurd (omega (arith, less))
pair_at p (y ∷ ys) (suc i) (suc j) a b all at to less =
    pair_at p ys i j a b (and_parts (list_all (p y) ys) (all_pairs p ys) all).1 at to (omega (arith, less))

-- One that fails a test that not all pass.
pub record Fails (p : MemoryEvent → Bool) (xs : List MemoryEvent) : Type 0 where
  pub index : ℕ
  pub event : MemoryEvent
  pub is : slice_get xs index ≡ Some event
  pub fails : p event ≡ false

pub fails_at : (p : MemoryEvent → Bool) (xs : List MemoryEvent) → list_all p xs ≡ false → Fails p xs
fails_at p [] e = absurd (true≢false e)
fails_at p (x ∷ xs) e = elim (and_cases (p x) (list_all p xs) e) [
  | inl not_so ↦ record { index = zero; event = x; is = refl; fails = not_so }
  | inr not_so ↦
      let f = fails_at p xs not_so in
      record { index = suc f.index; event = f.event; is = f.is; fails = f.fails }
]

pub record IsCandidate (test : LitmusTest) (events : List MemoryEvent) : Type 0 where
  pub before : all_pairs is_before events ≡ true
  pub sourced : list_all (is_sourced test events) events ≡ true
  pub ranked : list_all is_ranked events ≡ true
  pub apart : all_pairs are_apart events ≡ true
  pub failing : list_all (is_failing events) events ≡ true

pub candidate_of : (test : LitmusTest) (events : List MemoryEvent) → is_candidate test events ≡ true
    → IsCandidate test events
candidate_of test events is =
    let a : Bool = all_pairs is_before events in
    let b : Bool = list_all (is_made test) events in
    let c : Bool = list_all (is_sourced test events) events in
    let d : Bool = list_all is_ranked events in
    let e : Bool = all_pairs are_apart events in
    let f : Bool = list_all (is_failing events) events in
    let p = and_parts (a && b && c && d && e) f is in
    let q = and_parts (a && b && c && d) e p.0 in
    let r = and_parts (a && b && c) d q.0 in
    let s = and_parts (a && b) c r.0 in
    record { before = (and_parts a b s.0).0; sourced = s.1; ranked = r.1; apart = q.1; failing = p.1 }

not_before : (a b : MemoryEvent) → is_before a b ≡ true → a.hart ≡ b.hart → a.place < b.place
not_before a b is own = elim (cases_Bool (nat_lt a.hart b.hart)) [
  | inl less ↦
      let lower = ltb-true a.hart b.hart less in
      absurd (omega (arith, lower, own))
  | inr not_so ↦
      let other : (a.hart == b.hart && nat_lt a.place b.place) ≡ true =
      sym (ap (λ x. x || (a.hart == b.hart && nat_lt a.place b.place)) not_so) ∙ is in
      ltb-true a.place b.place (and_parts (a.hart == b.hart) (nat_lt a.place b.place) other).1
]

pub less_or_not : (i j : ℕ) → (i < j) ⊎ (j ≤ i)
less_or_not i j = elim (cases_Bool (nat_lt i j)) [
  | inl is_so ↦ inl (ltb-true i j is_so)
  | inr not_so ↦ inr (ltb-false i j not_so)
]

pub same_or_more : (i j : ℕ) → j ≤ i → (i ≡ j) ⊎ (j < i)
same_or_more i j le = elim (less_or_not j i) [
  | inl less ↦ inr less
  | inr over ↦ inl (omega (arith, le, over))
]

-- Of one hart, what is before another in program order is so in the list.
pub in_list_order : (xs : List MemoryEvent) (i j : ℕ) (a b : MemoryEvent) → all_pairs is_before xs ≡ true
    → slice_get xs i ≡ Some a → slice_get xs j ≡ Some b → a.hart ≡ b.hart → a.place < b.place → i < j
in_list_order xs i j a b all at to own less = elim (less_or_not i j) [
  | inl is ↦ is
  | inr over ↦ elim (same_or_more i j over) [
    | inl same ↦
        let e : Some a ≡ Some b = sym at ∙ ap (slice_get xs) same ∙ to in
        let f : a ≡ b = cc in
        let g : a.place ≡ b.place = ap (λ x. x.place) f in
        absurd (omega (arith, g, less))
    | inr more ↦
        let other = not_before b a (pair_at is_before xs j i b a all to at more) (sym own) in
        absurd (omega (arith, other, less))
  ]
]

pub pair_in_order : (p : MemoryEvent → MemoryEvent → Bool) (xs : List MemoryEvent) (i j : ℕ) (a b : MemoryEvent)
    → all_pairs is_before xs ≡ true → all_pairs p xs ≡ true
    → slice_get xs i ≡ Some a → slice_get xs j ≡ Some b → a.hart ≡ b.hart → a.place < b.place → p a b ≡ true
pair_in_order p xs i j a b before all at to own less =
    pair_at p xs i j a b all at to (in_list_order xs i j a b before at to own less)
