-- The free list read out register by register: the free ones rising, each once.
use Rattle.std.specs.Prelude.{◌≡◌, ℕ, zero, suc, ◌+◌, ◌<◌, ◌≤◌, ◌==◌, ◌&&◌, Bool, true, false, nat_lt, List, [], ◌∷◌}
use Rattle.std.specs.Prelude.{◌++◌, filter}
use Rattle.std.proofs.Common.{◌∙◌, refl, ap, subst, inl, inr, arith}
use Rattle.std.proofs.{lemmas.Bool.cases_Bool, lemmas.Bool.cases_eq, lemmas.Bool.Decides.nat_tests}
use Rattle.numbers.specs.Sizes.{most_registers}
use Rattle.events.specs.declared.event.Event.{Event}
use Rattle.smt_model.specs.{Basics.below, Basics.how_many, Picture.is_free, Registers.claims, Registers.is_unclaimed}
use Rattle.smt_model.specs.{Rules.is_legal, Setup.Setup, Setup.registers_of}
use Rattle.smt_laws.proofs.Registers.Counts.{claims-once}
use Rattle.smt_model.proofs.Lists.{filter-append}
use Rattle.free_list.specs.Flags.{holds}
use Rattle.core_parts.specs.{Listed.listed}
use Rattle.core_parts.proofs.Listing.{one_kept, one_lost, nothing_behind, listed_same}
use Rattle.core_state.specs.{View.CoreView, declared.state.State.TheInside.Inside}
use Rattle.core_state.specs.State.{IsCore, past_of, setup_in, view_of}

-- ---- How often a number comes

abbrev one_if : Bool → ℕ
one_if true = 1
one_if false = 0

often_push : (p : ℕ) (xs : List ℕ) (n : ℕ)
    → how_many (λ x. x == p) (xs ++ n ∷ []) ≡ how_many (λ x. x == p) xs + one_if (n == p)
often_push p [] n =
    elim (cases_Bool (n == p)) [
      | inl same ↦ rw same (omega arith)
      | inr other ↦ rw other (omega arith)
    ]
often_push p (x ∷ xs) n =
    let rest = often_push p xs n in
    elim (cases_Bool (x == p)) [
      | inl same ↦ rw same (omega arith)
      | inr other ↦ rw other rest
    ]

counts_in : (t : ℕ → Bool) (p n : ℕ) → t n ≡ true
    → one_if (nat_lt p n && t p) + one_if (n == p) ≡ one_if (nat_lt p (suc n) && t p)
counts_in t p n passes =
    elim (cases_eq n p) [
      | inl same ↦ let at : t p ≡ true = subst (λ k. t k ≡ true) same passes in grind (arith, nat_tests)
      | inr other ↦ grind (arith, nat_tests)
    ]

counts_out : (t : ℕ → Bool) (p n : ℕ) → t n ≡ false → one_if (nat_lt p n && t p) ≡ one_if (nat_lt p (suc n) && t p)
counts_out t p n fails =
    elim (cases_eq n p) [
      | inl same ↦ let at : t p ≡ false = subst (λ k. t k ≡ false) same fails in grind (arith, nat_tests)
      | inr other ↦ grind (arith, nat_tests)
    ]

-- A number that passes comes once among those below n, if it is one of them.
pub often_below : (t : ℕ → Bool) (p n : ℕ) → how_many (λ x. x == p) (filter t (below n)) ≡ one_if (nat_lt p n && t p)
often_below t p zero = grind (arith, nat_tests)
often_below t p (suc n) =
    let rest = often_below t p n in
    let joined = ap (how_many (λ x. x == p)) (filter-append t (below n) (n ∷ [])) in
    elim (cases_Bool (t n)) [
      | inl passes ↦
          let kept = ap (λ ys. how_many (λ x. x == p) (filter t (below n) ++ ys)) (one_kept t n passes) in
          joined ∙ kept ∙ often_push p (filter t (below n)) n ∙ ap (λ k. k + one_if (n == p)) rest
          ∙ counts_in t p n passes
      | inr fails ↦
          let lost = ap (λ ys. how_many (λ x. x == p) (filter t (below n) ++ ys)) (one_lost t n fails) in
          let bare = ap (how_many (λ x. x == p)) (nothing_behind (filter t (below n))) in
          joined ∙ lost ∙ bare ∙ rest ∙ counts_out t p n fails
    ]

-- ---- The free registers

-- Each physical register is claimed once, or free once.
once_or_free : (n : ℕ) → n ≤ 1 → n + one_if (n == 0) ≡ 1
once_or_free zero few = refl
once_or_free (suc n) few = grind (arith, nat_tests)

often_listed : (t : ℕ → Bool) (p : ℕ) → how_many (λ x. x == p) (listed t) ≡ one_if (nat_lt p most_registers && t p)
unfolding listed
often_listed t p = often_below t p most_registers

pub exactly_once : (setup : Setup) (past : List Event) → is_legal setup past → registers_of setup ≤ most_registers
    → (p : ℕ)
    → p < registers_of setup
    → claims setup past p + how_many (λ x. x == p) (listed (is_free setup past)) ≡ 1
unfolding is_unclaimed
exactly_once setup past legal fit p inside =
    let often : how_many (λ x. x == p) (listed (is_free setup past)) ≡ one_if (nat_lt p most_registers && is_free
    setup past p) =
    often_listed (is_free setup past) p in
    let under : nat_lt p (registers_of setup) ≡ true = grind (arith, nat_tests) in
    let near : nat_lt p most_registers ≡ true = grind (arith, nat_tests) in
    rw (often, near, under) (once_or_free (claims setup past p) (claims-once setup past legal p))

-- ---- The state's

registers_fit : (i : Inside) → IsCore i → registers_of (setup_in i) ≤ most_registers
registers_fit i core = let sizes = core.sizes in grind (arith, nat_tests)

pub free_of : (i : Inside) (view : CoreView) → IsCore i → view_of i ≡ view
    → listed (λ x. holds i.parts.free x) ≡ listed (is_free view.setup view.past)
free_of i view core is =
    subst (λ (v : CoreView). listed (λ x. holds i.parts.free x) ≡ listed (is_free v.setup v.past)) is
    (listed_same (λ x. holds i.parts.free x) (is_free (setup_in i) (past_of i)) core.agrees.free)

pub once_of : (i : Inside) (view : CoreView) (xs : List ℕ) → IsCore i → view_of i ≡ view
    → xs ≡ listed (is_free view.setup view.past)
    → (p : ℕ) → p < registers_of view.setup → claims view.setup view.past p + how_many (λ x. x == p) xs ≡ 1
once_of i view xs core is free =
    subst (λ (v : CoreView). xs ≡ listed (is_free v.setup v.past) → (p : ℕ) → p < registers_of v.setup
    → claims v.setup v.past p + how_many (λ x. x == p) xs ≡ 1) is
    (λ here p inside. rw here (exactly_once (setup_in i) (past_of i) core.legal (registers_fit i core) p inside)) free
