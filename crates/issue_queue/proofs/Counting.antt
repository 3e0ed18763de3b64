-- How many sources wait for a register.
use Rattle.std.proofs.Common.{◌≡◌, ◌≢◌, ℕ, zero, suc, ◌+◌, ◌<◌, ◌==◌, Bool, true, false, cond, Option, Some, None, refl, sym, ap, ◌∙◌, inl, inr, arith}
use Rattle.std.proofs.lemmas.Bool.{cases_eq}
use Rattle.std.proofs.lemmas.Bool.Decides.{nat_tests}
use Rattle.slab.specs.Slab.{Slab}
use Rattle.issue_queue.specs.{declared.entry.Entry.Entry, Waiting.nodes, Parts.waits_at}

abbrev is_it : ℕ → Option ℕ → Bool
is_it r None = false
is_it r (Some w) = w == r

abbrev one_if : Bool → ℕ
one_if b = cond b 1 0

-- of so many nodes, those that wait for the register
count_nodes : (ℕ → Option ℕ) → ℕ → ℕ → ℕ
count_nodes waits r zero = 0
count_nodes waits r (suc n) = one_if (is_it r (waits n)) + count_nodes waits r n

pub count_waiting : Slab Entry → ℕ → ℕ
count_waiting s r = count_nodes (waits_at s) r nodes

same_count : (waits waits2 : ℕ → Option ℕ) (r n : ℕ) → ((i : ℕ) → i < n → waits2 i ≡ waits i)
    → count_nodes waits2 r n ≡ count_nodes waits r n
unfolding count_nodes
same_count waits waits2 r zero same = refl
same_count waits waits2 r (suc n) same =
    λ i. one_if (is_it r (same n (omega arith) i))
    + same_count waits waits2 r n (λ k lt. same k (omega arith)) i

less_count : (waits waits2 : ℕ → Option ℕ) (r n m : ℕ) → m < n → waits m ≡ Some r → waits2 m ≡ None
    → ((i : ℕ) → i < n → i ≢ m → waits2 i ≡ waits i) → count_nodes waits2 r n < count_nodes waits r n
unfolding count_nodes
less_count waits waits2 r zero m inside was now others = absurd (omega (arith, inside))
less_count waits waits2 r (suc n) m inside was now others =
    elim (cases_eq m n) [
      | inl same ↦
          let one : ◌≡◌ {A = ℕ} (one_if (is_it r (waits n))) 1 =
          ap (λ k. one_if (is_it r (waits k))) (sym same) ∙ ap (λ o. one_if (is_it r o)) was ∙ itself r in
          let none : ◌≡◌ {A = ℕ} (one_if (is_it r (waits2 n))) 0 =
          ap (λ k. one_if (is_it r (waits2 k))) (sym same) ∙ ap (λ o. one_if (is_it r o)) now in
          let rest : count_nodes waits2 r n ≡ count_nodes waits r n =
          same_count waits waits2 r n (λ i lt. others i (omega arith) (λ is. omega (arith, lt, is, same))) in
          omega (arith, one, none, rest)
      | inr other ↦
          let here : ◌≡◌ {A = ℕ} (one_if (is_it r (waits2 n))) (one_if (is_it r (waits n))) =
          ap (λ o. one_if (is_it r o)) (others n (omega arith) (λ is. other (sym is))) in
          let rest : count_nodes waits2 r n < count_nodes waits r n =
          less_count waits waits2 r n m (omega (arith, inside, other)) was now (λ i lt. others i (omega arith)) in
          omega (arith, here, rest)
    ]
  where
    itself : (r : ℕ) → ◌≡◌ {A = ℕ} (one_if (is_it r (Some r))) 1
    itself r = let is : (r == r) ≡ true = grind (arith, nat_tests) in rw is refl

pub fewer_wait : (s new : Slab Entry) (r node : ℕ) → node < nodes → waits_at s node ≡ Some r
    → waits_at new node ≡ None → ((i : ℕ) → i < nodes → i ≢ node → waits_at new i ≡ waits_at s i)
    → count_waiting new r < count_waiting s r
unfolding count_waiting
fewer_wait s new r node inside was now others = less_count (waits_at s) (waits_at new) r nodes node inside was now others
