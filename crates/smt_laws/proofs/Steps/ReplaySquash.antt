-- A retirement of a load that has another value now: all younger ones of its hart are squashed first, then it retires,
-- and its hart goes on behind it. The picture in between is of no history.
use Rattle.std.specs.Prelude.{◌≡◌, ◌≢◌, ℕ, ◌<◌, ◌≤◌, Bool, true, false, not, ◌==◌, ◌&&◌, ◌||◌, nat_lt, nat_le}
use Rattle.std.specs.Prelude.{if◌then◌else◌, List, [], ◌∷◌, Some, None, is_some}
use Rattle.std.specs.List.{filter, list_any}
use Rattle.std.proofs.Common.{◌∙◌, refl, sym, ap, subst, inl, inr, arith}
use Rattle.std.proofs.{lemmas.Bool.cases_Bool, lemmas.Bool.false_from_ne_true, lemmas.Bool.Decides.nat_tests}
use Rattle.numbers.specs.Sizes.{most_registers}
use Rattle.events.specs.{declared.effect.Effect.Effect, declared.event.Event.Event}
use Rattle.events.specs.{declared.event.Event.TheVariants.Retire}
use Rattle.smt_model.specs.{Basics.how_many, Basics.same_number, Setup.Setup, Setup.registers_of, Kinds.destination}
use Rattle.smt_model.specs.{Rules.refused, Rules.is_legal, Picture.Picture, Picture.picture, Picture.is_free}
use Rattle.smt_model.specs.{Nexts.is_last}
use Rattle.smt_model.specs.Fates.{Fate, Renamed, fate, is, is_in_flight, is_of, op_at, squashed_fate}
use Rattle.smt_model.specs.Flights.{in_decode, in_rename, flight, queue, icount}
use Rattle.smt_model.specs.Registers.{phys, writes, mapped, committed, is_unclaimed}
use Rattle.smt_model.proofs.{Fates.Numbers.first_of_hart, Registers.Claims.IsRegister, Registers.Claims.claimant}
use Rattle.smt_model.proofs.{Allowed.retire_allowed, Lists.filter-member, Lists.member-filter, Fates.Moves.retire_was}
use Rattle.smt_model.proofs.Fates.Moves.{same_number-is, same_number-self}
use Rattle.smt_laws.proofs.Registers.Namings.{in_range}
use Rattle.smt_laws.proofs.Registers.Counts.{flights-once, apart as claims_apart}
use Rattle.smt_laws.proofs.{Registers.Held.writer_named, Registers.Held.some_is, Events.Freeing.true_false}
use Rattle.smt_laws.proofs.Steps.Misprediction.{at_own, at_other}
use Rattle.smt_model.specs.Steps.{IsSameInstruction, IsSquash, up_to, beyond, youngest, has_register}
use Rattle.smt_laws.proofs.Steps.RetireCommits.{was-Retire, committed-other, committed-own, free-replaced, free-kept}
use Rattle.smt_laws.proofs.Steps.RetireCommits.{WasInFlight, FliesOn}
use Rattle.smt_laws.proofs.Events.Squash.{IsSquashing, squash_young, squash_other, icount-squash}
use Rattle.smt_laws.proofs.Events.SquashedRegisters.{flew_before as flew_back, are_own, in_the_flight, flight-rises}
use Rattle.smt_laws.proofs.Events.SquashedRegisters.{flight-owns, any-some, any-one, below_true}
use Rattle.smt_laws.proofs.Events.Emptying.{first_and_rest, others_empty, dead_flying, flight_had}

-- The younger ones of its hart are squashed, and it is still there.
abbrev pub replay_middle : Setup → List Event → ℕ → ℕ → Picture
replay_middle setup past h n = record (picture setup past) {
  fate = λ s. if is_of past h s && nat_lt n s then squashed_fate (fate past s) else fate past s;
  in_decode = λ g. if g == h then [] else in_decode past g;
  in_rename = λ g. if g == h then [] else in_rename past g;
  flight = λ g. if g == h then up_to n (flight past h) else flight past g;
  icount = λ g. if g == h then how_many (λ s. is (fate past s) Renamed) (up_to n (flight past h)) else icount past g;
  mapped = λ g r. if g == h then youngest (picture setup past) r (up_to n (flight past h)) (committed past h r)
      else mapped past g r;
  queue = filter (λ s. not (is_of past h s && nat_lt n s)) (queue past);
  free = λ y. is_free setup past y || list_any (has_register (picture setup past) y) (beyond n (flight past h));
}

pub if_false : {A : Type 0} → (test : Bool) (x y : A) → test ≡ false → (if test then x else y) ≡ y
if_false test x y is_so = rw is_so refl

not_squashed : (n t : ℕ) (mine : Bool) → (mine ≡ true → t ≤ n) → (mine && nat_lt n t) ≡ false
not_squashed n t true upto = let under = upto refl in grind (arith, nat_tests)
not_squashed n t false upto = refl

in_both : (a b : Bool) → a ≡ true → (b ≡ false → ⊥) → (a && b) ≡ true
in_both a true one not_none = rw one refl
in_both a false one not_none = absurd (not_none refl)

and_first : (a b : Bool) → (a && b) ≡ true → a ≡ true
and_first a b passes = grind arith

and_second : (a b : Bool) → (a && b) ≡ true → b ≡ true
and_second a b passes = grind arith

above_is : (n t : ℕ) → nat_lt n t ≡ true → n < t
above_is n t test = grind (arith, nat_tests)

or_right : (a b : Bool) → b ≡ true → (a || b) ≡ true
or_right true b some = refl
or_right false b some = some

or_middle : (a b c : Bool) → b ≡ true → ((a || b) || c) ≡ true
or_middle true b c some = refl
or_middle false b c some = rw some refl

or_neither : (a b c : Bool) → b ≡ false → c ≡ false → ((a || b) || c) ≡ a
or_neither true b c one two = refl
or_neither false b c one two = rw (one, two) refl

up_to_first : (n : ℕ) (rest : List ℕ) → up_to n rest ≡ [] → up_to n (n ∷ rest) ≡ n ∷ []
up_to_first n rest none = let here : nat_le n n ≡ true = grind (arith, nat_tests) in rw (here, none) refl

-- ---- The squash

pub squash_first : (setup : Setup) (past : List Event) → is_legal setup past → registers_of setup ≤ most_registers
    → (h n : ℕ)
    → IsSquash (picture setup past) (replay_middle setup past h n) h n
squash_first setup past legal fit h n = record {
  own =
      let owns = flight-owns setup past legal fit h in
      are_own (picture setup past) (flight past h) (flight-rises setup past legal h)
      (record { range = owns.range; claimed = owns.claimed; once = owns.once });
  in_decode = at_own h [] (in_decode past h);
  in_rename = at_own h [] (in_rename past h);
  flight = at_own h (up_to n (flight past h)) (flight past h);
  icount = at_own h (how_many (λ s. is (fate past s) Renamed) (up_to n (flight past h))) (icount past h);
  mapped = λ r low high. at_own h (youngest (picture setup past) r (up_to n (flight past h)) (committed past h r))
      (mapped past h r);
  queue = refl;
  free = λ y. refl;
  flights = λ t flies upto.
      record {
        fate = if_false (is_of past h t && nat_lt n t) (squashed_fate (fate past t)) (fate past t)
            (not_squashed n t (is_of past h t) upto);
        phys = refl;
        completion = refl;
      };
  stays = record {
    hart = record {
      in_decode = tt;
      in_rename = tt;
      flight = tt;
      icount = tt;
      mapped = tt;
      committed = λ r low high. refl;
      fetch_pc = refl;
      status = refl;
    };
    others = λ g other. record {
      in_decode = at_other g h [] (in_decode past g) other;
      in_rename = at_other g h [] (in_rename past g) other;
      flight = at_other g h (up_to n (flight past h)) (flight past g) other;
      icount = at_other g h (how_many (λ s. is (fate past s) Renamed) (up_to n (flight past h))) (icount past g) other;
      mapped = λ r low high. at_other g h
          (youngest (picture setup past) r (up_to n (flight past h)) (committed past h r)) (mapped past g r) other;
      committed = λ r low high. refl;
      fetch_pc = refl;
      status = refl;
    };
    shared = record {
      kept = λ s f at. at;
      operands = λ k s before now. (refl, refl);
      queue = tt;
      free = tt;
      values = λ y claimed. refl;
      readings = λ s waits still. (record { seen = refl; reads = refl }, record { seen = refl; reads = refl });
      job = λ j. refl;
      fetches = record { fetched = λ s. refl; fetches = refl; last_fetched = refl };
      records = refl;
      output = refl;
      memory = record { byte = λ addr. refl; reserved = λ g. refl; touched = λ s. refl; looks = refl };
    };
  };
}

-- ---- Its own step

-- In flight in between: not squashed.
pub squash_lands : (test : Bool) (f : Fate) → is_in_flight (if test then squashed_fate f else f) ≡ true → test ≡ false
squash_lands true f flies = grind (arith, nat_tests)
squash_lands false f flies = refl

pub swapped : (a b : Bool) → (a && b) ≡ false → (b && a) ≡ false
swapped a b none = grind arith

pub same_again : (setup : Setup) (past : List Event) → is_legal setup past → (actor n : ℕ) (x : Effect)
    → (ok : refused setup past (Retire actor n x) ≡ None) → (h : ℕ) → IsSquashing past (Retire actor n x) h → (t : ℕ)
    → is_in_flight (if is_of past h t && nat_lt n t then squashed_fate (fate past t) else fate past t) ≡ true → t ≢ n
    → IsSameInstruction (replay_middle setup past h n) (picture setup (Retire actor n x ∷ past)) t
same_again setup past legal actor n x ok h squashing t flies other =
    let spared_it = squash_lands (is_of past h t && nat_lt n t) (fate past t) flies in
    record {
      fate =
          squash_other past (Retire actor n x) h squashing t (λ same. other (sym same))
          (swapped (is_of past h t) (nat_lt n t) spared_it)
          ∙ sym (if_false (is_of past h t && nat_lt n t) (squashed_fate (fate past t)) (fate past t) spared_it);
      phys = refl;
      completion = refl;
    }

pub only_one : (setup : Setup) (past : List Event) → is_legal setup past → (actor n : ℕ) (x : Effect)
    → (ok : refused setup past (Retire actor n x) ≡ None) → (h : ℕ) → is_of past h n ≡ true
    → up_to n (flight past h) ≡ n ∷ []
only_one setup past legal actor n x ok h of_n =
    let front = first_of_hart past (flight past) h n of_n (retire_allowed setup past actor n x ok).oldest in
    ap (up_to n) (first_and_rest (flight past h) n (flight-rises setup past legal h) front)
    ∙ up_to_first n (filter (λ s. not (s == n)) (flight past h)) (others_empty setup past legal h n front)

pub waiting_one : (setup : Setup) (past : List Event) → is_legal setup past → (actor n : ℕ) (x : Effect)
    → (ok : refused setup past (Retire actor n x) ≡ None) → (h : ℕ) → IsSquashing past (Retire actor n x) h
    → icount (Retire actor n x ∷ past) h ≡ how_many (λ s. is (fate past s) Renamed) (up_to n (flight past h))
waiting_one setup past legal actor n x ok h squashing =
    icount-squash setup past legal (Retire actor n x) ok h squashing (λ s. is (fate past s) Renamed) (λ s under. refl)
    (ap (λ f. is f Renamed) (was-Retire setup past actor n x ok))

-- Nobody younger has a committed register.
pub none_beyond : (setup : Setup) (past : List Event) → is_legal setup past → (h n d : ℕ) → IsRegister setup h d
    → list_any (has_register (picture setup past) (committed past h d)) (beyond n (flight past h)) ≡ false
none_beyond setup past legal h n d is_register =
    false_from_ne_true (list_any (has_register (picture setup past) (committed past h d)) (beyond n (flight past h)))
    (λ some.
    let one = any-one (has_register (picture setup past) (committed past h d)) (beyond n (flight past h)) some in
    let parts = member-filter (λ s. nat_lt n s) one.one (flight past h) one.inside in
    absurd (claims_apart setup past legal one.one h d (in_the_flight setup past legal h one.one parts.0).1 is_register
    (same_number-is (phys past one.one) (Some (committed past h d)) one.passes)))

-- What a squashed one had is free.
given_too : (setup : Setup) (past : List Event) → is_legal setup past → (actor n : ℕ) (x : Effect)
    → (ok : refused setup past (Retire actor n x) ≡ None) → is_last x.next ≡ false → (h : ℕ)
    → IsSquashing past (Retire actor n x) h → (y : ℕ)
    → list_any (has_register (picture setup past) y) (beyond n (flight past h)) ≡ true
    → is_free setup (Retire actor n x ∷ past) y ≡ true
given_too setup past legal actor n x ok going h squashing y some =
    let e = Retire actor n x in
    let one = any-one (has_register (picture setup past) y) (beyond n (flight past h)) some in
    let parts = member-filter (λ s. nat_lt n s) one.one (flight past h) one.inside in
    let at = in_the_flight setup past legal h one.one parts.0 in
    let names : phys past one.one ≡ Some y = same_number-is (phys past one.one) (Some y) one.passes in
    in_both (nat_lt y (registers_of setup)) (is_unclaimed setup (e ∷ past) y)
    (below_true y (registers_of setup) (in_range setup past legal one.one y names)) (λ claimed.
    elim (claimant setup (e ∷ past) y claimed) [
      | inl flight_claim ↦
          let before = flew_back setup past legal e ok h squashing flight_claim.one flight_claim.flies in
          let same = flights-once setup past legal one.one flight_claim.one y at.1 before names flight_claim.names in
          let dead = squash_young setup past legal e ok h squashing one.one at.0 (above_is n one.one parts.1) in
          dead_flying (fate (e ∷ past) one.one) dead
          (subst (λ z. is_in_flight (fate (e ∷ past) z) ≡ true) (sym same) flight_claim.flies)
      | inr other_claim ↦
          elim (cases_Bool (writes past other_claim.hart other_claim.register n)) [
            | inl writes_it ↦
                let was = retire_was setup past actor n x ok in
                let now = committed-own setup past legal actor n x ok going other_claim.hart other_claim.register
                other_claim.is_register.low writes_it in
                let some_it = writer_named setup past legal other_claim.hart other_claim.register n
                other_claim.is_register.low writes_it (omega arith) (omega arith) in
                let same = flights-once setup past legal one.one n y at.1
                (ap is_in_flight (was-Retire setup past actor n x ok)) names
                (some_is (phys past n) some_it ∙ ap Some (sym now ∙ other_claim.commits)) in
                let above = above_is n one.one parts.1 in
                absurd (omega arith)
            | inr another_one ↦
                let same = committed-other setup past legal actor n x ok other_claim.hart other_claim.register
                (ap (λ b. b && not (is_last x.next)) another_one) in
                absurd
                (claims_apart setup past legal one.one other_claim.hart other_claim.register at.1
                other_claim.is_register
                (names ∙ ap Some (sym (sym same ∙ other_claim.commits))))
          ]
    ])

flies_there : (setup : Setup) (past : List Event) → is_legal setup past → (actor n : ℕ) (x : Effect)
    → (ok : refused setup past (Retire actor n x) ≡ None) → (h : ℕ) → IsSquashing past (Retire actor n x) h → (y : ℕ)
    → list_any (has_register (picture setup past) y) (beyond n (flight past h)) ≡ false
    → FliesOn past (Retire actor n x) y
flies_there setup past legal actor n x ok h squashing y none s other flies names =
    elim (cases_Bool (nat_lt n s && is_of past h s)) [
      | inl squash_it ↦
          let of_s = and_second (nat_lt n s) (is_of past h s) squash_it in
          let inside = filter-member (λ z. nat_lt n z) s (flight past h) (flight_had setup past legal h s of_s flies)
          (and_first (nat_lt n s) (is_of past h s) squash_it) in
          absurd (true_false (sym (any-some (has_register (picture setup past) y) (beyond n (flight past h)) s inside
          (ap (λ o. same_number o (Some y)) names ∙ same_number-self (Some y))) ∙ none))
      | inr spared_it ↦
          ap is_in_flight (squash_other past (Retire actor n x) h squashing s (λ same. other (sym same)) spared_it)
          ∙ flies
    ]

pub free-Replay : (setup : Setup) (past : List Event) → is_legal setup past → (actor n : ℕ) (x : Effect)
    → (ok : refused setup past (Retire actor n x) ≡ None) → is_last x.next ≡ false → (h : ℕ)
    → IsSquashing past (Retire actor n x) h → is_of past h n ≡ true
    → (y : ℕ) → is_free setup (Retire actor n x ∷ past) y
    ≡ ((is_free setup past y || list_any (has_register (picture setup past) y) (beyond n (flight past h)))
    || (is_some (phys past n) && (y == committed past h (destination (op_at past n)))))
free-Replay setup past legal actor n x ok going h squashing of_n y =
    let e = Retire actor n x in
    let back : WasInFlight past e = λ s flies. flew_back setup past legal e ok h squashing s flies in
    let given = list_any (has_register (picture setup past) y) (beyond n (flight past h)) in
    let replaces = is_some (phys past n) && (y == committed past h (destination (op_at past n))) in
    elim (cases_Bool replaces) [
      | inl yes_it ↦ free-replaced setup past legal actor n x ok back going h of_n y yes_it
          ∙ sym (or_right (is_free setup past y || given) replaces yes_it)
      | inr keeps ↦
          elim (cases_Bool given) [
            | inl some ↦ given_too setup past legal actor n x ok going h squashing y some
                ∙ sym (or_middle (is_free setup past y) given replaces some)
            | inr none ↦
                free-kept setup past legal actor n x ok back going h of_n y
                (flies_there setup past legal actor n x ok h squashing y none) keeps
                ∙ sym (or_neither (is_free setup past y) given replaces none keeps)
          ]
    ]
