-- What is watched, register by register.
use Rattle.std.specs.Prelude.{◌≡◌, ◌≢◌, ◌⊎◌, ℕ, ◌+◌, ◌<◌, ◌≤◌, Bool, true, false, List, length, Some, slice_get}
use Rattle.std.specs.Prelude.{slice_index_or, slice_set}
use Rattle.std.proofs.Common.{◌∙◌, sym, ap, subst, inl, inr, arith}
use Rattle.std.proofs.lemmas.Bool.{cases_lt, cases_order}
use Rattle.std.proofs.lemmas.List.{length-set, get_or-set_same, get_or-set_other}
use Rattle.std.proofs.lemmas.Option.{slice_get_within}
use Rattle.watched_outcomes.specs.declared.watch.{WatchedRegister.WatchedRegister}
use Rattle.watched_outcomes.specs.Watching.{is_register_there}

inside : (v w : WatchedRegister) → Some v ≡ Some w → v ≡ w
inside v w e = cc

same_element : (registers : List WatchedRegister) (place : ℕ) (v w : WatchedRegister)
    → slice_get registers place ≡ Some v → slice_get registers place ≡ Some w → v ≡ w
same_element registers place v w one other = inside v w (sym one ∙ other)

-- The registers before a place are marked.
pub record AreMarked (registers : List WatchedRegister) (place : ℕ) (marks : List Bool) : Type 0 where
  pub long : length marks ≡ 32
  pub marked : (k : ℕ) (w : WatchedRegister) → k < place → slice_get registers k ≡ Some w → w.register < 32
      → slice_index_or marks w.register false ≡ true

-- The registers before a place are there.
abbrev pub AreThereBefore : ℕ → List WatchedRegister → ℕ → Type 0
AreThereBefore harts registers place = (k : ℕ) (w : WatchedRegister) → k < place → slice_get registers k ≡ Some w
    → is_register_there harts w ≡ true

-- One register more is marked, or it is no register.
pub mark_one : (registers : List WatchedRegister) (place : ℕ) (marks : List Bool) (w : WatchedRegister)
    → slice_get registers place ≡ Some w → w.register < 32 → AreMarked registers place marks
    → AreMarked registers (place + 1) (slice_set marks w.register true)
mark_one registers place marks w at inside so = record {
  long = length-set marks w.register true ∙ so.long;
  marked = λ k v before at_k small. by k v at_k small (cases_lt k place) before (cases_order v.register w.register);
}
  where
    by : (k : ℕ) (v : WatchedRegister) → slice_get registers k ≡ Some v → v.register < 32
        → (k < place) ⊎ (place ≤ k) → k < place + 1
        → (v.register ≡ w.register) ⊎ ((v.register < w.register) ⊎ (w.register < v.register))
        → slice_index_or (slice_set marks w.register true) v.register false ≡ true
    by k v at_k small where_k before (inl same) =
        subst (λ r. slice_index_or (slice_set marks w.register true) r false ≡ true) (sym same)
        (get_or-set_same marks w.register true false (omega (arith, so.long)))
    by k v at_k small (inl old) before (inr other) =
        get_or-set_other marks w.register v.register true false (apart other) ∙ so.marked k v old at_k small
      where
        apart : (v.register < w.register) ⊎ (w.register < v.register) → v.register ≢ w.register
        apart (inl less) same = absurd (omega (arith, same))
        apart (inr more) same = absurd (omega (arith, same))
    by k v at_k small (inr new) before (inr other) =
        let is : k ≡ place = omega arith in
        let same : v ≡ w = same_element registers place v w (subst (λ p. slice_get registers p ≡ Some v) is at_k) at in
        absurd (apart (subst (λ (u : WatchedRegister). (u.register < w.register) ⊎ (w.register < u.register)) same other))
      where
        apart : (w.register < w.register) ⊎ (w.register < w.register) → ⊥
        apart (inl less) = absurd (omega arith)
        apart (inr more) = absurd (omega arith)

pub mark_none : (registers : List WatchedRegister) (place : ℕ) (marks : List Bool) (w : WatchedRegister)
    → slice_get registers place ≡ Some w → 32 ≤ w.register → AreMarked registers place marks
    → AreMarked registers (place + 1) marks
mark_none registers place marks w at outside so = record {
  long = so.long;
  marked = λ k v before at_k small. by k v at_k small (cases_lt k place) before;
}
  where
    by : (k : ℕ) (v : WatchedRegister) → slice_get registers k ≡ Some v → v.register < 32
        → (k < place) ⊎ (place ≤ k) → k < place + 1 → slice_index_or marks v.register false ≡ true
    by k v at_k small (inl old) before = so.marked k v old at_k small
    by k v at_k small (inr new) before =
        let is : k ≡ place = omega arith in
        let same : v ≡ w = same_element registers place v w (subst (λ p. slice_get registers p ≡ Some v) is at_k) at in
        let r : v.register ≡ w.register = ap (λ (u : WatchedRegister). u.register) same in
        absurd (omega (arith, r))

pub all_marked : (registers : List WatchedRegister) (place : ℕ) (marks : List Bool) → length registers ≤ place
    → AreMarked registers place marks → (k : ℕ) (w : WatchedRegister) → slice_get registers k ≡ Some w
    → w.register < 32 → slice_index_or marks w.register false ≡ true
all_marked registers place marks over so k w at small =
    let inside = slice_get_within registers k w at in so.marked k w (omega arith) at small

pub one_there : (harts : ℕ) (registers : List WatchedRegister) (place : ℕ) (w : WatchedRegister)
    → slice_get registers place ≡ Some w → is_register_there harts w ≡ true → AreThereBefore harts registers place
    → AreThereBefore harts registers (place + 1)
one_there harts registers place w at there before k v below at_k = by (cases_lt k place)
  where
    by : (k < place) ⊎ (place ≤ k) → is_register_there harts v ≡ true
    by (inl old) = before k v old at_k
    by (inr new) =
        let is : k ≡ place = omega arith in
        let same : w ≡ v = same_element registers place w v at (subst (λ p. slice_get registers p ≡ Some v) is at_k) in
        subst (λ u. is_register_there harts u ≡ true) same there
