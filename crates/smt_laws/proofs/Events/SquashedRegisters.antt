-- Registers given back: those of squashed instructions become free, each once.
use Rattle.std.specs.Prelude.{◌≡◌, ◌≢◌, ℕ, ◌<◌, ◌≤◌, Bool, true, false, ◌&&◌, ◌||◌, nat_lt, List, [], ◌∷◌, Some, None}
use Rattle.std.proofs.Common.{◌∙◌, refl, sym, ap, subst, inl, inr, arith}
use Rattle.std.proofs.{lemmas.Bool.cases_Bool, lemmas.Bool.cases_eq, lemmas.Bool.false_from_ne_true}
use Rattle.std.proofs.{lemmas.Bool.Decides.nat_tests}
use Rattle.events.specs.{declared.event.Event.Event, Event.seq_of}
use Rattle.smt_model.specs.{Basics.same_number, Setup.Setup, Setup.registers_of, Flights.numbers, Flights.flight}
use Rattle.smt_model.specs.{Registers.phys, Registers.committed, Registers.is_unclaimed, Rules.refused, Rules.is_legal}
use Rattle.smt_model.specs.{Picture.Picture, Picture.picture, Picture.is_free, Steps.AreOwn, Steps.has_register}
use Rattle.smt_model.specs.{Steps.beyond}
use Rattle.smt_model.specs.Fates.{Fate, fate, is_in_flight, is_of, is_live}
use Rattle.smt_model.proofs.Lists.{member, member-behind, Each-at, Rises, member-filter, filter-member, Rises-filter}
use Rattle.smt_model.proofs.Fates.Numbers.{numbers-of, numbers-member, numbers-rise}
use Rattle.smt_model.proofs.Registers.Claims.{claimant, flight_claimed}
use Rattle.smt_model.proofs.Registers.Claims.{committed_claimed}
use Rattle.smt_laws.proofs.Events.Freeing.{same_test, true_false}
use Rattle.smt_model.proofs.Fates.Moves.{same_number-is, same_number-self}
use Rattle.smt_laws.proofs.Registers.Namings.{in_range}
use Rattle.smt_laws.proofs.{Registers.Counts.flights-once, Registers.Counts.apart, Events.Squash.IsSquashing}
use Rattle.smt_laws.proofs.Events.Squash.{squash_young, squash_other}
use Rattle.std.specs.List.{list_any}
use Rattle.numbers.specs.Sizes.{most_registers}

-- ---- Lists

any-none : (test : ℕ → Bool) (xs : List ℕ) → ((s : ℕ) → member s xs ≡ true → test s ≡ false) → list_any test xs ≡ false
any-none test [] none = refl
any-none test (x ∷ xs) none =
    rw (none x (grind (arith, nat_tests))) (any-none test xs (λ s m. none s (member-behind x s xs m)))

or_true : (a b : Bool) → b ≡ true → (a || b) ≡ true
or_true true b some = refl
or_true false b some = some

pub or_false : (a : Bool) → (a || false) ≡ a
or_false true = refl
or_false false = refl

pub any-some : (test : ℕ → Bool) (xs : List ℕ) (s : ℕ) → member s xs ≡ true → test s ≡ true → list_any test xs ≡ true
any-some test [] s m passes = absurd (grind arith)
any-some test (x ∷ xs) s m passes =
    elim (cases_eq x s) [
      | inl here ↦ let mine : test x ≡ true = subst (λ z. test z ≡ true) (sym here) passes in rw mine refl
      | inr other ↦ or_true (test x) (list_any test xs) (any-some test xs s (grind (arith, nat_tests)) passes)
    ]

pub record IsOneOf (test : ℕ → Bool) (xs : List ℕ) : Type 0 where
  pub one : ℕ
  pub inside : member one xs ≡ true
  pub passes : test one ≡ true

pub any-one : (test : ℕ → Bool) (xs : List ℕ) → list_any test xs ≡ true → IsOneOf test xs
any-one test [] some = absurd (grind arith)
any-one test (x ∷ xs) some =
    elim (cases_Bool (test x)) [
      | inl here ↦ record { one = x; inside = grind (arith, nat_tests); passes = here }
      | inr other ↦
          let rest = any-one test xs (grind arith) in
          record { one = rest.one; inside = member-behind x rest.one xs rest.inside; passes = rest.passes }
    ]

-- ---- Each has a register of its own

pub record OwnTheirs (p : Picture) (xs : List ℕ) : Type 0 where
  pub range : (s x : ℕ) → member s xs ≡ true → p.phys s ≡ Some x → x < most_registers
  pub claimed : (s x : ℕ) → member s xs ≡ true → p.phys s ≡ Some x → p.free x ≡ false
  pub once : (s t x : ℕ) → member s xs ≡ true → member t xs ≡ true → p.phys s ≡ Some x → p.phys t ≡ Some x → s ≡ t

pub are_own : (p : Picture) (xs : List ℕ) → Rises xs → OwnTheirs p xs → AreOwn p xs
are_own p [] rises own = tt
are_own p (s ∷ rest) rises own = (
  λ x at. record {
    in_range = own.range s x (grind (arith, nat_tests)) at;
    claimed = own.claimed s x (grind (arith, nat_tests)) at;
    alone = any-none (has_register p x) rest (λ t m.
        false_from_ne_true (has_register p x t) (λ also.
        let above : s < t = Each-at (λ z. s < z) rest rises.0 t m in
        let same = own.once s t x (grind (arith, nat_tests)) (member-behind s t rest m)
        at (same_number-is (p.phys t) (Some x) also) in
        absurd (omega arith)));
  },
  are_own p rest rises.1 (record {
    range = λ t x m. own.range t x (member-behind s t rest m);
    claimed = λ t x m. own.claimed t x (member-behind s t rest m);
    once = λ t u x m o. own.once t u x (member-behind s t rest m) (member-behind s u rest o);
  }),
)

pub in_the_flight : (setup : Setup) (past : List Event) → is_legal setup past → (h s : ℕ)
    → member s (flight past h) ≡ true
    → (is_of past h s ≡ true) × (is_in_flight (fate past s) ≡ true)
in_the_flight setup past legal h s m =
    let parts = member-filter (λ x. is_in_flight (fate past x)) s (numbers past h) m in
    (numbers-of setup past legal h s parts.0, parts.1)

pub flight-rises : (setup : Setup) (past : List Event) → is_legal setup past → (h : ℕ) → Rises (flight past h)
flight-rises setup past legal h =
    Rises-filter (λ x. is_in_flight (fate past x)) (numbers past h) (numbers-rise setup past legal h)

free_not : (inside : Bool) {unclaimed : Bool} → unclaimed ≡ false → (inside && unclaimed) ≡ false
free_not true claimed = claimed
free_not false claimed = refl

-- The flight of a history does.
pub flight-owns : (setup : Setup) (past : List Event) → is_legal setup past → registers_of setup ≤ most_registers
    → (h : ℕ)
    → OwnTheirs (picture setup past) (flight past h)
flight-owns setup past legal fits h = record {
  range = λ s x m at. let under = in_range setup past legal s x at in omega arith;
  claimed = λ s x m at. free_not (nat_lt x (registers_of setup))
      (flight_claimed setup past legal s x (in_the_flight setup past legal h s m).1 at);
  once = λ s t x m o at also.
      flights-once setup past legal s t x (in_the_flight setup past legal h s m).1
      (in_the_flight setup past legal h t o).1 at also;
}

-- ---- What a squash frees

-- Registers are named and committed as before, and the instruction is in flight still.
pub record IsGiving (setup : Setup) (past : List Event) (e : Event) (h : ℕ) : Type 0 where
  pub squashing : IsSquashing past e h
  pub still : is_in_flight (fate (e ∷ past) (seq_of e)) ≡ true
  pub names : (s : ℕ) → phys (e ∷ past) s ≡ phys past s
  pub commits : (g r : ℕ) → committed (e ∷ past) g r ≡ committed past g r

second_of : (a b : Bool) → (a && b) ≡ true → b ≡ true
second_of a b passes = grind arith

first_true : (a b : Bool) → (a && b) ≡ true → a ≡ true
first_true a b passes = grind arith

above_of : (n t : ℕ) → nat_lt n t ≡ true → n < t
above_of n t test = grind (arith, nat_tests)

pub below_true : (x n : ℕ) → x < n → nat_lt x n ≡ true
below_true x n under = grind (arith, nat_tests)

dead_flight : (f : Fate) → is_live f ≡ false → is_in_flight f ≢ true
dead_flight f dead flies = grind (arith, nat_tests)

pub freed : (inside unclaimed before some : Bool) → inside ≡ true → unclaimed ≢ false → some ≡ true
    → (inside && unclaimed) ≡ (before || some)
freed inside true before some in_it not_claimed some_one = rw (in_it, some_one) (sym (or_true before true refl))
freed inside false before some in_it not_claimed some_one = absurd (not_claimed refl)

-- Who is in flight after is so before.
pub flew_before : (setup : Setup) (past : List Event) → is_legal setup past → (e : Event) → refused setup past e ≡ None
    → (h : ℕ) → IsSquashing past e h
    → (s : ℕ) → is_in_flight (fate (e ∷ past) s) ≡ true → is_in_flight (fate past s) ≡ true
flew_before setup past legal e ok h squashing s flies =
    elim (cases_eq (seq_of e) s) [
      | inl here ↦ subst (λ z. is_in_flight (fate past z) ≡ true) here squashing.flew
      | inr other ↦
          elim (cases_Bool (nat_lt (seq_of e) s && is_of past h s)) [
            | inl squash_it ↦
                let dead = squash_young setup past legal e ok h squashing s
                (second_of (nat_lt (seq_of e) s) (is_of past h s) squash_it) (grind (arith, nat_tests)) in
                absurd (dead_flight (fate (e ∷ past) s) dead flies)
            | inr spared ↦ ap is_in_flight (sym (squash_other past e h squashing s other spared)) ∙ flies
          ]
    ]

-- What is given back is free.
given_back : (setup : Setup) (past : List Event) → is_legal setup past → (e : Event)
    → (ok : refused setup past e ≡ None) → (h : ℕ) → IsGiving setup past e h
    → (x : ℕ) → IsOneOf (has_register (picture setup past) x) (beyond (seq_of e) (flight past h))
    → is_unclaimed setup (e ∷ past) x ≢ false
given_back setup past legal e ok h giving x one claimed =
    let t = one.one in
    let parts = member-filter (λ s. nat_lt (seq_of e) s) t (flight past h) one.inside in
    let at = in_the_flight setup past legal h t parts.0 in
    let names : phys past t ≡ Some x = same_number-is (phys past t) (Some x) one.passes in
    elim (claimant setup (e ∷ past) x claimed) [
      | inl flight_claim ↦
          let also = flew_before setup past legal e ok h giving.squashing flight_claim.one flight_claim.flies in
          let same = flights-once setup past legal t flight_claim.one x at.1 also names
          (sym (giving.names flight_claim.one) ∙ flight_claim.names) in
          let dead = squash_young setup past legal e ok h giving.squashing t at.0 (above_of (seq_of e) t parts.1) in
          absurd
          (dead_flight (fate (e ∷ past) t) dead
          (subst (λ z. is_in_flight (fate (e ∷ past) z) ≡ true) (sym same) flight_claim.flies))
      | inr register_claim ↦
          absurd (apart setup past legal t register_claim.hart register_claim.register at.1 register_claim.is_register
          (names
          ∙ ap Some
          (sym (sym (giving.commits register_claim.hart register_claim.register) ∙ register_claim.commits))))
    ]

-- What isn't stays claimed or unclaimed.
-- One whose register isn't given back flies on.
flies_on : (setup : Setup) (past : List Event) → is_legal setup past → (e : Event) → refused setup past e ≡ None
    → (h : ℕ) → IsGiving setup past e h
    → (s x : ℕ) → is_in_flight (fate past s) ≡ true → phys past s ≡ Some x
    → list_any (has_register (picture setup past) x) (beyond (seq_of e) (flight past h)) ≡ false
    → is_in_flight (fate (e ∷ past) s) ≡ true
flies_on setup past legal e ok h giving s x flies names none =
    elim (cases_eq (seq_of e) s) [
      | inl here ↦ subst (λ z. is_in_flight (fate (e ∷ past) z) ≡ true) here giving.still
      | inr other ↦
          elim (cases_Bool (nat_lt (seq_of e) s && is_of past h s)) [
            | inl squash_it ↦
                let of_s = second_of (nat_lt (seq_of e) s) (is_of past h s) squash_it in
                let in_flight = filter-member (λ y. is_in_flight (fate past y)) s (numbers past h)
                (numbers-member setup past legal h s of_s) flies in
                let inside = filter-member (λ y. nat_lt (seq_of e) y) s (flight past h) in_flight
                (first_true (nat_lt (seq_of e) s) (is_of past h s) squash_it) in
                absurd
                (true_false
                (sym (any-some (has_register (picture setup past) x)
                (beyond (seq_of e) (flight past h)) s inside
                (ap (λ o. same_number o (Some x)) names ∙ same_number-self (Some x))) ∙ none))
            | inr spared ↦ ap is_in_flight (squash_other past e h giving.squashing s other spared) ∙ flies
          ]
    ]

not_given : (setup : Setup) (past : List Event) → is_legal setup past → (e : Event) → (ok : refused setup past e ≡ None)
    → (h : ℕ) → IsGiving setup past e h
    → (x : ℕ) → list_any (has_register (picture setup past) x) (beyond (seq_of e) (flight past h)) ≡ false
    → is_unclaimed setup (e ∷ past) x ≡ is_unclaimed setup past x
not_given setup past legal e ok h giving x none =
    same_test (is_unclaimed setup (e ∷ past) x) (is_unclaimed setup past x)
    (λ claimed.
    elim (claimant setup (e ∷ past) x claimed) [
      | inl flight_claim ↦
          flight_claimed setup past legal flight_claim.one x
          (flew_before setup past legal e ok h giving.squashing flight_claim.one flight_claim.flies)
          (sym (giving.names flight_claim.one) ∙ flight_claim.names)
      | inr register_claim ↦
          subst (λ z. is_unclaimed setup past z ≡ false)
          (sym (giving.commits register_claim.hart register_claim.register) ∙ register_claim.commits)
          (committed_claimed setup past register_claim.hart register_claim.register register_claim.is_register)
    ])
    (λ claimed.
    elim (claimant setup past x claimed) [
      | inl flight_claim ↦
          flight_claimed setup (e ∷ past) (ok, legal) flight_claim.one x
          (flies_on setup past legal e ok h giving flight_claim.one x flight_claim.flies flight_claim.names none)
          (giving.names flight_claim.one ∙ flight_claim.names)
      | inr register_claim ↦
          subst (λ z. is_unclaimed setup (e ∷ past) z ≡ false)
          (giving.commits register_claim.hart register_claim.register ∙ register_claim.commits)
          (committed_claimed setup (e ∷ past) register_claim.hart register_claim.register register_claim.is_register)
    ])

pub free-squash : (setup : Setup) (past : List Event) → is_legal setup past → (e : Event)
    → (ok : refused setup past e ≡ None) → (h : ℕ) → IsGiving setup past e h
    → (x : ℕ)
    → is_free setup (e ∷ past) x
    ≡ (is_free setup past x || list_any (has_register (picture setup past) x) (beyond (seq_of e) (flight past h)))
free-squash setup past legal e ok h giving x =
    elim (cases_Bool (list_any (has_register (picture setup past) x) (beyond (seq_of e) (flight past h)))) [
      | inl some ↦
          let one = any-one (has_register (picture setup past) x) (beyond (seq_of e) (flight past h)) some in
          let names : phys past one.one ≡ Some x = same_number-is (phys past one.one) (Some x) one.passes in
          freed (nat_lt x (registers_of setup)) (is_unclaimed setup (e ∷ past) x) (is_free setup past x)
          (list_any (has_register (picture setup past) x) (beyond (seq_of e) (flight past h)))
          (below_true x (registers_of setup) (in_range setup past legal one.one x names))
          (given_back setup past legal e ok h giving x one) some
      | inr none ↦
          ap (λ b. nat_lt x (registers_of setup) && b) (not_given setup past legal e ok h giving x none)
          ∙ sym (ap (λ b. is_free setup past x || b) none ∙ or_false (is_free setup past x))
    ]
