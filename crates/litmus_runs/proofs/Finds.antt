-- All that an instruction may find is listed.
use Rattle.std.specs.Prelude.{◌≡◌, ◌⊎◌, ℕ, ◌+◌, ◌<◌, Bool, true, false, List, [], ◌∷◌, ◌++◌, length, Contains, Option, Some, None, is_some, slice_index_or, take, ◌≤◌, ◌≢◌}
use Rattle.std.proofs.Common.{sym, subst, refl, ap, inl, inr, arith}
use Rattle.std.proofs.lemmas.List.{take_more, take_all}
use Rattle.std.proofs.lemmas.List.Elements.{Contains-push, Contains-push_cases, Contains-append_left}
use Rattle.litmus_runs.specs.declared.{finding.Found.Found, known.Held.Held}
use Rattle.litmus_runs.specs.Ways.{IsOneOf}

-- Two that agree in each part are one.
pub same_found : (a b : Found) → a.number ≡ b.number → a.held ≡ b.held → a.location ≡ b.location → a ≡ b
same_found a b number held location =
    let e : record { number = a.number; held = a.held; location = a.location } ≡ b = rw (number, held, location) refl in e

-- A location that is told is the only one that it can be.
pub located : (o : Option ℕ) (location : ℕ) → is_some o ≡ true → ((other : ℕ) → o ≡ Some other → other ≡ location)
    → o ≡ Some location
located None location told only = absurd (grind arith)
located (Some other) location told only = ap Some (only other refl)

pub unlocated : (o : Option ℕ) → is_some o ≡ false → o ≡ None
unlocated None told = refl
unlocated (Some other) told = absurd (grind arith)

-- A store-conditional writes or fails.
pub written_or_failed : (location : ℕ) (writes fails one : Found) → writes.number ≡ 0 → writes.held ≡ true
    → writes.location ≡ Some location → fails.number ≡ 0 → fails.held ≡ false → fails.location ≡ Some location
    → one.number ≡ 0 → one.location ≡ Some location → (held : Bool) → one.held ≡ held
    → Contains (([] ++ writes ∷ []) ++ fails ∷ []) one
written_or_failed location writes fails one wn wh wl fn fh fl n l true h =
    let e : one ≡ writes = same_found one writes (rw (n, wn) refl) (rw (h, wh) refl) (rw (l, wl) refl) in
    rw e (Contains-append_left ([] ++ writes ∷ []) (fails ∷ []) writes (Contains-push [] writes))
written_or_failed location writes fails one wn wh wl fn fh fl n l false h =
    let e : one ≡ fails = same_found one fails (rw (n, fn) refl) (rw (h, fh) refl) (rw (l, fl) refl) in
    rw e (Contains-push ([] ++ writes ∷ []) fails)

-- One more of the numbers of a location: what a read finds is one of those before it, or this one.
pub one_more : (known : List Held) (location i : ℕ) (d : Held) (one : Found) → i < length known
    → IsOneOf (take (i + 1) known) location one
    → IsOneOf (take i known) location one
    ⊎ (slice_index_or known i d ≡ record { location = location; number = one.number })
one_more known location i d one bound is =
    let held : Held = record { location = location; number = one.number } in
    let there : Contains (take i known ++ slice_index_or known i d ∷ []) held =
    subst (λ (xs : List Held). Contains xs held) (take_more known i d bound) is.number in
    elim (Contains-push_cases (take i known) (slice_index_or known i d) held there) [
      | inl before ↦ inl (record { held = is.held; place = is.place; number = before })
      | inr this ↦ inr this
    ]

-- So what is listed grows with them: by what is found of this one, if it is of the location.
pub listed_more : (known : List Held) (location i : ℕ) (d : Held) (all : List Found) (found : Found)
    → i < length known → found.number ≡ (slice_index_or known i d).number → found.held ≡ false
    → found.location ≡ Some location
    → ((one : Found) → IsOneOf (take i known) location one → Contains all one)
    → (one : Found) → IsOneOf (take (i + 1) known) location one → Contains (all ++ found ∷ []) one
listed_more known location i d all found bound number held place before one is =
    elim (one_more known location i d one bound is) [
      | inl earlier ↦ Contains-append_left all (found ∷ []) one (before one earlier)
      | inr this ↦
          let same : one ≡ found = same_found one found (rw (number, this) refl) (rw (held, is.held) refl)
          (rw (place, is.place) refl) in
          rw same (Contains-push all found)
    ]

pub listed_less : (known : List Held) (location i : ℕ) (d : Held) (all : List Found)
    → i < length known → (slice_index_or known i d).location ≢ location
    → ((one : Found) → IsOneOf (take i known) location one → Contains all one)
    → (one : Found) → IsOneOf (take (i + 1) known) location one → Contains all one
listed_less known location i d all bound other before one is =
    elim (one_more known location i d one bound is) [
      | inl earlier ↦ before one earlier
      | inr this ↦ absurd (other (ap (λ (held : Held). held.location) this))
    ]

-- With the whole list gone through.
pub all_listed : (known : List Held) (location i : ℕ) (all : List Found) → length known ≤ i
    → ((one : Found) → IsOneOf (take i known) location one → Contains all one)
    → (one : Found) → IsOneOf known location one → Contains all one
all_listed known location i all past before one is =
    before one (subst (λ (xs : List Held). IsOneOf xs location one) (sym (take_all i known past)) is)
