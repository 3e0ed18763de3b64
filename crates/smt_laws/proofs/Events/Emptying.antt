-- An event that takes the whole flight of a hart away: the first of it leaves, and all younger ones are squashed. A
-- retirement that squashes does so, and a refetch.
use Rattle.std.specs.Prelude.{◌≡◌, ◌≢◌, ℕ, ◌<◌, ◌≤◌, Bool, true, false, not, ◌==◌, ◌&&◌, nat_lt, nat_le, List, []}
use Rattle.std.specs.Prelude.{◌∷◌, ◌++◌, Some, None}
use Rattle.std.specs.List.{filter}
use Rattle.std.proofs.Common.{◌∙◌, refl, sym, ap, subst, inl, inr, arith}
use Rattle.std.proofs.{lemmas.Bool.cases_eq, lemmas.Bool.cases_lt, lemmas.Bool.false_from_ne_true}
use Rattle.std.proofs.{lemmas.Bool.Decides.nat_tests, lemmas.List.append-nil}
use Rattle.rv_instr.specs.declared.op.Op.{Op}
use Rattle.events.specs.{declared.effect.Effect.Effect, declared.event.Event.Event, Event.seq_of}
use Rattle.events.specs.declared.event.Event.TheVariants.{Retire, Refetch}
use Rattle.smt_model.specs.{Basics.first, Setup.Setup, Flights.numbers, Flights.flight, Rules.refused, Rules.is_legal}
use Rattle.smt_model.specs.{Steps.up_to, Steps.beyond, Picture.source_register_in}
use Rattle.smt_model.specs.Fates.{Fate, stage, fate, fetching, is_in_flight, is_of, op_of_fetched, same_hart, is_live}
use Rattle.smt_model.specs.Fates.{squashes_at_retirement}
use Rattle.smt_model.specs.Registers.{phys, committed, source, holder, source_register}
use Rattle.smt_model.proofs.Lists.{member, Each-at, Rises, filter-same, filter-none, filter-member, member-filter}
use Rattle.smt_model.proofs.Fates.Numbers.{is_of-one, is_of-below, is_of-kept, first_of_hart, numbers-of}
use Rattle.smt_model.proofs.Fates.Numbers.{numbers-member, same_hart-at}
use Rattle.smt_model.proofs.{Registers.Claims.IsRegister, Allowed.retire_allowed, Allowed.refetch_allowed}
use Rattle.smt_model.proofs.Fates.Moves.{retire_was, refetch_was, stage-retired_as}
use Rattle.smt_laws.proofs.{Fates.Order.older_passed, Fates.Once.refetched, Fates.Choosing.hart_there}
use Rattle.smt_laws.proofs.{Registers.Sources.source-is, Registers.Held.is_held}
use Rattle.smt_laws.proofs.{Registers.Operands.IsSourceName, Registers.Reading.seen-held}
use Rattle.smt_laws.proofs.Events.{Freeing.IsFlying, Freeing.true_false, FreedRegisters.Leaves}
use Rattle.smt_laws.proofs.Events.Squash.{IsSquashing, squash_young, squash_other}
use Rattle.smt_laws.proofs.Events.SquashedRegisters.{flew_before as flew_back, in_the_flight, flight-rises}

-- Event e is of the first of hart h's flight, takes it out of the pipeline, and squashes all younger ones.
pub record IsEmptying (past : List Event) (e : Event) (h : ℕ) : Type 0 where
  pub squashing : IsSquashing past e h
  pub front : first (flight past h) ≡ Some (seq_of e)
  pub landed : 6 ≤ stage (fate (e ∷ past) (seq_of e))

-- ---- Retirements and refetches

pub retired_six : (setup : Setup) (past : List Event) (actor n : ℕ) (x : Effect)
    → refused setup past (Retire actor n x) ≡ None
    → 6 ≤ stage (fate (Retire actor n x ∷ past) n)
retired_six setup past actor n x ok =
    let was = retire_was setup past actor n x ok in
    let told_it = stage-retired_as x in
    grind (arith, nat_tests)

five_flies : (f : Fate) → stage f ≡ 5 → is_in_flight f ≡ true
five_flies f five = grind (arith, nat_tests)

pub squashing-Retire : (setup : Setup) (past : List Event) → is_legal setup past → (actor n : ℕ) (x : Effect)
    → refused setup past (Retire actor n x) ≡ None → squashes_at_retirement past n x ≡ true → (h : ℕ)
    → is_of past h n ≡ true → IsSquashing past (Retire actor n x) h
squashing-Retire setup past legal actor n x ok squashes_now h of_n =
    let six = retired_six setup past actor n x ok in
    record {
      of_hart = of_n;
      flew = five_flies (fate past n) (retire_was setup past actor n x ok);
      late = omega arith;
      squashes_it = λ s other. ap (λ b. b && (nat_lt n s && same_hart past n s)) squashes_now
          ∙ ap (λ b. nat_lt n s && b) (same_hart-at past h n s of_n);
      adds_none = λ g. refl;
      adds_no_number = refl;
    }

pub emptying-Retire : (setup : Setup) (past : List Event) (actor n : ℕ) (x : Effect)
    → refused setup past (Retire actor n x) ≡ None → (h : ℕ) → IsSquashing past (Retire actor n x) h
    → IsEmptying past (Retire actor n x) h
emptying-Retire setup past actor n x ok h squashing = record {
  squashing = squashing;
  front = first_of_hart past (flight past) h n squashing.of_hart (retire_allowed setup past actor n x ok).oldest;
  landed = retired_six setup past actor n x ok;
}

other_upto : (n s : ℕ) (mine : Bool) → n ≢ s → (nat_le n s && mine) ≡ (nat_lt n s && mine)
other_upto n s mine other = grind (arith, nat_tests)

pub squashing-Refetch : (setup : Setup) (past : List Event) → is_legal setup past → (actor n : ℕ)
    → refused setup past (Refetch actor n) ≡ None
    → (h : ℕ) → is_of past h n ≡ true → IsSquashing past (Refetch actor n) h
squashing-Refetch setup past legal actor n ok h of_n =
    let gone = refetched setup past legal actor n ok in
    record {
      of_hart = of_n;
      flew = five_flies (fate past n) (refetch_was setup past actor n ok);
      late = omega arith;
      squashes_it = λ s other. other_upto n s (same_hart past n s) other
          ∙ ap (λ b. nat_lt n s && b) (same_hart-at past h n s of_n);
      adds_none = λ g. refl;
      adds_no_number = refl;
    }

pub emptying-Refetch : (setup : Setup) (past : List Event) → is_legal setup past → (actor n : ℕ)
    → refused setup past (Refetch actor n) ≡ None
    → (h : ℕ) → is_of past h n ≡ true → IsEmptying past (Refetch actor n) h
emptying-Refetch setup past legal actor n ok h of_n =
    let gone = refetched setup past legal actor n ok in
    record {
      squashing = squashing-Refetch setup past legal actor n ok h of_n;
      front = first_of_hart past (flight past) h n of_n (refetch_allowed setup past actor n ok).oldest;
      landed = omega arith;
    }

-- ---- The flight

all_pass : (xs : List ℕ) → filter (λ s. true) xs ≡ xs
all_pass [] = refl
all_pass (x ∷ xs) = ap (λ ys. x ∷ ys) (all_pass xs)

-- A rising list is its first and the others.
pub first_and_rest : (xs : List ℕ) (n : ℕ) → Rises xs → first xs ≡ Some n → xs ≡ n ∷ filter (λ s. not (s == n)) xs
first_and_rest [] n rises front = absurd (grind arith)
first_and_rest (x ∷ xs) n rises front =
    let here : x ≡ n = grind arith in
    let gone : not (x == n) ≡ false = grind (arith, nat_tests) in
    let rest : filter (λ s. not (s == n)) xs ≡ xs =
    filter-same (λ s. not (s == n)) (λ s. true) xs (λ s m.
    let above : x < s = Each-at (λ z. x < z) xs rises.0 s m in grind (arith, nat_tests))
    ∙ all_pass xs in
    rw (gone, rest) (ap (λ z. z ∷ xs) here)

beyond_all : (n : ℕ) (xs : List ℕ) → Rises (n ∷ xs) → beyond n xs ≡ xs
beyond_all n xs rises =
    filter-same (λ s. nat_lt n s) (λ s. true) xs (λ s m.
    let above : n < s = Each-at (λ z. n < z) xs rises.0 s m in grind (arith, nat_tests))
    ∙ all_pass xs

-- No older one of the hart is in flight,
pub none_before : (setup : Setup) (past : List Event) → is_legal setup past → (h n s : ℕ)
    → first (flight past h) ≡ Some n → is_of past h s ≡ true → s < n → is_in_flight (fate past s) ≡ false
none_before setup past legal h n s front of_s under =
    older_passed setup past legal (λ x. is_in_flight (fate past x)) h n s front of_s under

-- so that of those up to it, none but itself.
pub alone_in_flight : (setup : Setup) (past : List Event) → is_legal setup past → (h n s : ℕ)
    → first (flight past h) ≡ Some n → is_of past h s ≡ true → is_in_flight (fate past s) ≡ true → s ≤ n → s ≡ n
alone_in_flight setup past legal h n s front of_s flies upto =
    elim (cases_eq s n) [
      | inl here ↦ here
      | inr other ↦ absurd (true_false (sym flies ∙ none_before setup past legal h n s front of_s (omega arith)))
    ]

pub others_empty : (setup : Setup) (past : List Event) → is_legal setup past → (h n : ℕ)
    → first (flight past h) ≡ Some n
    → up_to n (filter (λ s. not (s == n)) (flight past h)) ≡ []
others_empty setup past legal h n front =
    filter-none (λ s. nat_le s n) (filter (λ s. not (s == n)) (flight past h)) (λ s m.
    let parts = member-filter (λ z. not (z == n)) s (flight past h) m in
    let at = in_the_flight setup past legal h s parts.0 in
    false_from_ne_true (nat_le s n) (λ upto.
    let same = alone_in_flight setup past legal h n s front at.0 at.1 (grind (arith, nat_tests)) in
    absurd (grind (arith, nat_tests))))

pub beyond_rest : (setup : Setup) (past : List Event) → is_legal setup past → (h n : ℕ)
    → first (flight past h) ≡ Some n
    → beyond n (filter (λ s. not (s == n)) (flight past h)) ≡ filter (λ s. not (s == n)) (flight past h)
beyond_rest setup past legal h n front =
    let rises = flight-rises setup past legal h in
    beyond_all n (filter (λ s. not (s == n)) (flight past h))
    (subst Rises (first_and_rest (flight past h) n rises front) rises)

pub dead_flying : (f : Fate) → is_live f ≡ false → is_in_flight f ≢ true
dead_flying f dead flies = grind (arith, nat_tests)

late_not_flying : (f : Fate) → 6 ≤ stage f → is_in_flight f ≢ true
late_not_flying f late flies = grind (arith, nat_tests)

not_above : (n s : ℕ) (mine : Bool) → s ≤ n → (nat_lt n s && mine) ≡ false
not_above n s mine upto = grind (arith, nat_tests)

-- Nothing of it is left.
pub flight-emptied : (setup : Setup) (past : List Event) → is_legal setup past → (e : Event)
    → refused setup past e ≡ None → (h : ℕ) → IsEmptying past e h → flight (e ∷ past) h ≡ []
flight-emptied setup past legal e ok h emptying =
    let n = seq_of e in
    ap (λ xs. filter (λ s. is_in_flight (fate (e ∷ past) s)) (numbers past h ++ xs)) (emptying.squashing.adds_none h)
    ∙ (ap (filter (λ s. is_in_flight (fate (e ∷ past) s))) (append-nil (numbers past h))
    ∙ filter-none (λ s. is_in_flight (fate (e ∷ past) s)) (numbers past h) (λ s m.
    let of_s = numbers-of setup past legal h s m in
    false_from_ne_true (is_in_flight (fate (e ∷ past) s)) (λ flies.
    elim (cases_lt n s) [
      | inl above ↦
          dead_flying (fate (e ∷ past) s) (squash_young setup past legal e ok h emptying.squashing s of_s above) flies
      | inr upto ↦
          elim (cases_eq s n) [
            | inl here ↦ late_not_flying (fate (e ∷ past) s)
                (subst (λ z. 6 ≤ stage (fate (e ∷ past) z)) (sym here) emptying.landed) flies
            | inr other ↦
                let same = squash_other past e h emptying.squashing s (λ same. other (sym same))
                (not_above n s (is_of past h s) upto) in
                absurd
                (other
                (alone_in_flight setup past legal h n s emptying.front of_s (ap is_in_flight (sym same) ∙ flies) upto))
          ]
    ])))

-- ---- Its registers

pub flight_had : (setup : Setup) (past : List Event) → is_legal setup past → (h s : ℕ) → is_of past h s ≡ true
    → is_in_flight (fate past s) ≡ true
    → member s (flight past h) ≡ true
flight_had setup past legal h s of_s flies =
    filter-member (λ z. is_in_flight (fate past z)) s (numbers past h) (numbers-member setup past legal h s of_s) flies

not_of_squash : (n s : ℕ) (mine : Bool) → (mine ≡ true → ⊥) → (nat_lt n s && mine) ≡ false
not_of_squash n s true none = absurd (none refl)
not_of_squash n s false none = grind arith

-- All are given back, where nothing is committed.
pub leaves-flight : (setup : Setup) (past : List Event) → is_legal setup past → (e : Event)
    → (ok : refused setup past e ≡ None) → (h : ℕ) → IsEmptying past e h
    → ((s : ℕ) → phys (e ∷ past) s ≡ phys past s) → ((g r : ℕ) → committed (e ∷ past) g r ≡ committed past g r)
    → Leaves setup past e (flight past h)
leaves-flight setup past legal e ok h emptying names commits = record {
  flew = λ s m. (in_the_flight setup past legal h s m).1;
  landed = λ s m.
      false_from_ne_true (is_in_flight (fate (e ∷ past) s)) (λ flies.
      let at = in_the_flight setup past legal h s m in
      let of_s = is_of-kept setup past legal e ok h s (is_of-below setup past legal h s at.0) ∙ at.0 in
      let inside = flight_had setup (e ∷ past) (ok, legal) h s of_s flies in
      absurd
      (true_false
      (sym (subst (λ xs. member s xs ≡ true) (flight-emptied setup past legal e ok h emptying) inside))));
  flies_on = λ s flies outside.
      ap is_in_flight (squash_other past e h emptying.squashing s
      (λ same. absurd
      (true_false
      (sym (flight_had setup past legal h s
      (subst (λ z. is_of past h z ≡ true) same emptying.squashing.of_hart) flies) ∙ outside)))
      (not_of_squash (seq_of e) s (is_of past h s)
      (λ of_s. absurd (true_false (sym (flight_had setup past legal h s of_s flies) ∙ outside))))) ∙ flies;
  back = λ s flies. flew_back setup past legal e ok h emptying.squashing s flies;
  names = names;
  commits = commits;
}

-- Nobody who waits and isn't squashed reads the register of an instruction whose younger ones are.
pub not_read : (setup : Setup) (past : List Event) → is_legal setup past → (e : Event) → refused setup past e ≡ None
    → (h : ℕ) → IsSquashing past e h
    → (which : Op → ℕ) → IsSourceName which → (s : ℕ) → (flying : IsFlying past e s)
    → 1 ≤ which (op_of_fetched (Some flying.fetch))
    → phys past (seq_of e) ≢ Some (source_register_in past which s (fetching past s))
not_read setup past legal e ok h squashing which names s flying some named =
    let f = flying.fetch in
    let r = which (op_of_fetched (Some f)) in
    let n = seq_of e in
    let seen_is : source_register_in past which s (fetching past s) ≡ source_register past f.hart r s =
    ap (source_register_in past which s) flying.fetched in
    let is_register : IsRegister setup f.hart r =
    record { hart = hart_there setup past legal f.hart s flying.of_hart; low = some; high = names f.word } in
    let held : holder past (source_register past f.hart r s) ≡ source past f.hart r s =
    seen-held setup past legal f.hart r s is_register flying.of_hart flying.was in
    let mine : holder past (source_register past f.hart r s) ≡ Some n =
    (is_held setup past legal).flying n (source_register past f.hart r s) squashing.flew
    (named ∙ ap Some seen_is) in
    let found = source-is past f.hart r s n (sym held ∙ mine) in
    let same : f.hart ≡ h = is_of-one past f.hart h n found.of_hart squashing.of_hart in
    let of_s : is_of past h s ≡ true = subst (λ z. is_of past z s ≡ true) same flying.of_hart in
    let dead = squash_young setup past legal e ok h squashing s of_s found.older in
    dead_flying (fate (e ∷ past) s) dead flying.still
