-- Chains of hops over plain lists: the same hops make the same chain; a chain grows at its end, loses its first, and is
-- cut.
use Rattle.std.specs.Prelude.{◌≡◌, ℕ, ◌<◌, Bool, true, false, nat_le, List, [], ◌∷◌, ◌++◌, Option, Some, None}
use Rattle.std.specs.List.{filter}
use Rattle.std.proofs.Common.{◌∙◌, refl, sym, ap, subst, inl, inr, arith}
use Rattle.std.proofs.{lemmas.Bool.cases_eq, lemmas.Bool.Decides.nat_tests}
use Rattle.events.specs.{declared.event.Event.Event}
use Rattle.smt_model.specs.{Basics.first, Setup.Setup, Flights.live, Fetching.fetch_pc}
use Rattle.smt_model.proofs.Lists.{member, member-behind, Each-at, Rises, filter-none}
use Rattle.smt_laws.specs.{Sequential.retired_pc, Chain.Hop, Chain.hop, Chain.Leads, Chain.IsChain}

-- ---- One hop

leads-on : (o : Option Hop) (from : ℕ) (P Q : ℕ → Type 0) → ((next : ℕ) → P next → Q next) → Leads o from P
    → Leads o from Q
leads-on None from P Q on leads = leads
leads-on (Some one) from P Q on leads = (leads.0, on one.next leads.1)

-- What a known hop says.
pub chain-first : (hops : ℕ → Option Hop) (n : ℕ) (rest : List ℕ) (one : Hop) → hops n ≡ Some one → (from end : ℕ)
    → IsChain hops (n ∷ rest) from end → (one.pc ≡ from) × IsChain hops rest one.next end
chain-first hops n rest one at from end chain = subst (λ o. Leads o from (λ next. IsChain hops rest next end)) at chain

-- The first of a chain stands where it begins.
pub chain-front : (hops : ℕ → Option Hop) (xs : List ℕ) (n : ℕ) (one : Hop) → first xs ≡ Some n → hops n ≡ Some one
    → (from end : ℕ)
    → IsChain hops xs from end → one.pc ≡ from
chain-front hops [] n one front at from end chain = absurd (grind arith)
chain-front hops (y ∷ ys) n one front at from end chain =
    let here : y ≡ n = grind arith in (chain-first hops y ys one (ap hops here ∙ at) from end chain).0

first-inside : (x : ℕ) (xs : List ℕ) → member x (x ∷ xs) ≡ true
first-inside x xs = grind (arith, nat_tests)

-- ---- Chains

pub chain-same : (f g : ℕ → Option Hop) (xs : List ℕ) (from end : ℕ) → ((s : ℕ) → member s xs ≡ true → g s ≡ f s)
    → IsChain f xs from end → IsChain g xs from end
chain-same f g [] from end same chain = chain
chain-same f g (x ∷ xs) from end same chain =
    subst (λ o. Leads o from (λ next. IsChain g xs next end)) (sym (same x (first-inside x xs)))
    (leads-on (f x) from (λ next. IsChain f xs next end) (λ next. IsChain g xs next end)
    (λ next rest. chain-same f g xs next end (λ s m. same s (member-behind x s xs m)) rest) chain)

pub chain-push : (hops : ℕ → Option Hop) (xs : List ℕ) (n : ℕ) (one : Hop) → hops n ≡ Some one → (from : ℕ)
    → IsChain hops xs from one.pc → IsChain hops (xs ++ n ∷ []) from one.next
chain-push hops [] n one at from chain =
    let here : Leads (Some one) from (λ next. next ≡ one.next) = (sym chain, refl) in
    subst (λ o. Leads o from (λ next. next ≡ one.next)) (sym at) here
chain-push hops (x ∷ xs) n one at from chain =
    leads-on (hops x) from (λ next. IsChain hops xs next one.pc) (λ next. IsChain hops (xs ++ n ∷ []) next one.next)
    (λ next rest. chain-push hops xs n one at next rest) chain

-- All behind n go, and n leads elsewhere.
squash_at : (n : ℕ) (xs : List ℕ) → Rises (n ∷ xs) → filter (λ s. nat_le s n) (n ∷ xs) ≡ n ∷ []
squash_at n xs rises =
    let here : nat_le n n ≡ true = grind (arith, nat_tests) in
    let none : filter (λ s. nat_le s n) xs ≡ [] =
    filter-none (λ s. nat_le s n) xs (λ s m. let above : n < s = Each-at (λ z. n < z) xs rises.0 s m in
    grind (arith, nat_tests)) in
    rw (here, none) refl

squash_below : (x n : ℕ) (xs : List ℕ) → x < n → filter (λ s. nat_le s n) (x ∷ xs) ≡ x ∷ filter (λ s. nat_le s n) xs
squash_below x n xs under = let kept : nat_le x n ≡ true = grind (arith, nat_tests) in rw kept refl

pub chain-squash : (f g : ℕ → Option Hop) (n : ℕ) (old new : Hop) → f n ≡ Some old → g n ≡ Some new → new.pc ≡ old.pc
    → ((s : ℕ) → s < n → g s ≡ f s) → (xs : List ℕ) (from end : ℕ) → Rises xs → member n xs ≡ true
    → IsChain f xs from end
    → IsChain g (filter (λ s. nat_le s n) xs) from new.next
chain-squash f g n old new was now pc same [] from end rises m chain = absurd (grind arith)
chain-squash f g n old new was now pc same (x ∷ xs) from end rises m chain =
    elim (cases_eq x n) [
      | inl here ↦
          let split : filter (λ s. nat_le s n) (x ∷ xs) ≡ n ∷ [] =
          subst (λ z. Rises (z ∷ xs) → filter (λ s. nat_le s n) (z ∷ xs) ≡ n ∷ []) (sym here) (squash_at n xs) rises in
          let at : f x ≡ Some old = ap f here ∙ was in
          let front = chain-first f x xs old at from end chain in
          let last : Leads (Some new) from (λ next. next ≡ new.next) = (pc ∙ front.0, refl) in
          subst (λ ys. IsChain g ys from new.next) (sym split)
          (subst (λ o. Leads o from (λ next. next ≡ new.next)) (sym now) last)
      | inr other ↦
          let there : member n xs ≡ true = grind (arith, nat_tests) in
          let under : x < n = Each-at (λ z. x < z) xs rises.0 n there in
          subst (λ ys. IsChain g ys from new.next) (sym (squash_below x n xs under))
          (subst (λ o. Leads o from (λ next. IsChain g (filter (λ s. nat_le s n) xs) next new.next))
          (sym (same x under))
          (leads-on (f x) from (λ next. IsChain f xs next end)
          (λ next. IsChain g (filter (λ s. nat_le s n) xs) next new.next)
          (λ next rest. chain-squash f g n old new was now pc same xs next end rises.1 there rest) chain))
    ]

-- ---- What stands first

-- In a rising list the least that passes stands first.
pub least_first : (test : ℕ → Bool) (n : ℕ) (xs : List ℕ) → Rises xs → member n xs ≡ true → test n ≡ true
    → ((s : ℕ) → member s xs ≡ true → s < n → test s ≡ false) → first (filter test xs) ≡ Some n
least_first test n [] rises m passes older = absurd (grind arith)
least_first test n (x ∷ xs) rises m passes older =
    elim (cases_eq x n) [
      | inl here ↦ let kept : test x ≡ true = ap test here ∙ passes in rw kept (ap Some here)
      | inr other ↦
          let there : member n xs ≡ true = grind (arith, nat_tests) in
          let under : x < n = Each-at (λ z. x < z) xs rises.0 n there in
          let gone : test x ≡ false = older x (first-inside x xs) under in
          rw gone (least_first test n xs rises.1 there passes (λ s m_s. older s (member-behind x s xs m_s)))
    ]

-- ---- The law at one hart

abbrev pub Chained : Setup → List Event → ℕ → Type 0
Chained setup past h = IsChain (hop past) (live past h) (retired_pc setup past h) (fetch_pc setup past h)
