-- What the rules of a rename say of the picture, and back: it can be made exactly where the event is allowed.
use Rattle.std.specs.Prelude.{◌≡◌, ◌≢◌, ℕ, ◌<◌, ◌≤◌, ◌&&◌, ◌||◌, nat_lt, not, Bool, true, false, List, [], ◌∷◌, length}
use Rattle.std.specs.Prelude.{Option, Some, None, is_some}
use Rattle.std.specs.List.{AllByRecursion}
use Rattle.std.proofs.Common.{◌∙◌, refl, sym, ap, subst, inl, inr, arith}
use Rattle.std.proofs.{lemmas.Bool.cases_lt, lemmas.Bool.Decides.nat_tests}
use Rattle.numbers.specs.Sizes.{most_accesses, most_registers}
use Rattle.events.specs.{declared.event.Event.Event, declared.event.Event.TheVariants.Rename}
use Rattle.smt_model.specs.Basics.{first, same_number, same_truth, or_zero, holds_of, how_many}
use Rattle.smt_model.specs.{Setup.Setup, Setup.registers_of, Jobs.is_actor, Picture.picture, Picture.is_free}
use Rattle.smt_model.specs.Kinds.{kind_of, is_loading, is_storing, writes_register}
use Rattle.smt_model.specs.Fates.{fate, is, is_in_flight, is_of, op_at, InRename}
use Rattle.smt_model.specs.Flights.{numbers, in_rename, flight, queue}
use Rattle.smt_model.specs.Registers.{phys, mapped, first_register, register_by, writer, is_unclaimed}
use Rattle.smt_model.specs.Rules.{refused, is_legal, is_first, of_fetched}
use Rattle.smt_model.proofs.Lists.{member-filter, first-member, Each, Each-all}
use Rattle.smt_model.proofs.{Allowed.rename_allowed, Allowed.rename_allows, Fates.Moves.rename_was}
use Rattle.smt_model.proofs.{Fates.Moves.same_number-self, Fates.Numbers.at_hart, Fates.Numbers.first_of_hart}
use Rattle.smt_model.proofs.Fates.Numbers.{numbers-of}
use Rattle.smt_laws.proofs.{Events.Mapping.mapped-is, Fates.Order.in_order, Registers.Namings.same_truth-is}
use Rattle.smt_laws.proofs.{Registers.Namings.in_range, Registers.Namings.taken, Fates.Choosing.hart_there}
use Rattle.smt_laws.proofs.{Steps.RenameMap.mapped_claimed, Steps.Rename.steps-Rename}
use Rattle.core_steps.specs.Renaming.{CanRename, IsRenaming}

-- ---- From the picture to the rules

-- The first of a hart's rename latch is an instruction of the hart, and there.
pub record IsDecoded (past : List Event) (h n : ℕ) : Type 0 where
  pub of_hart : is_of past h n ≡ true
  pub fated : is (fate past n) InRename ≡ true

pub decoded : (setup : Setup) (past : List Event) → is_legal setup past → (h n : ℕ) → first (in_rename past h) ≡ Some n
    → IsDecoded past h n
decoded setup past legal h n oldest =
    let found =
    member-filter (λ s. is (fate past s) InRename) n (numbers past h) (first-member (in_rename past h) n oldest) in
    record { of_hart = numbers-of setup past legal h n found.0; fated = found.1 }

same_truth-self : (a b : Bool) → a ≡ b → same_truth a b ≡ true
same_truth-self true b same = sym same
same_truth-self false b same = ap not (sym same)

-- A test of those of one kind alone.
needed : (a b : Bool) → (a ≡ true → b ≡ true) → (not a || b) ≡ true
needed true b holds = holds refl
needed false b holds = refl

needs : (a b : Bool) → (not a || b) ≡ true → a ≡ true → b ≡ true
needs true b holds is = holds
needs false b holds is = absurd (grind arith)

room_test : (past : List Event) (test : ℕ → Bool) (h n : ℕ) → is_of past h n ≡ true → test h ≡ true
    → of_fetched past n (λ f. test f.hart) ≡ true
room_test past test h n of_n holds = at_hart past test h n of_n ∙ holds

below_test : (m n : ℕ) → m < n → nat_lt m n ≡ true
below_test m n under = grind (arith, nat_tests)

test_below : (m n : ℕ) → nat_lt m n ≡ true → m < n
test_below m n holds = grind (arith, nat_tests)

unclaimed_test : (setup : Setup) (past : List Event) (register : Option ℕ)
    → ((x : ℕ) → register ≡ Some x → is_free setup past x ≡ true)
    → (not (is_some register) || holds_of (λ p. nat_lt p (registers_of setup) && is_unclaimed setup past p) register)
    ≡ true
unclaimed_test setup past None free = refl
unclaimed_test setup past (Some x) free = free x refl

pub rename_may : (setup : Setup) (past : List Event) → is_legal setup past → (actor h n : ℕ) (register : Option ℕ)
    → is_actor setup actor ≡ true
    → CanRename (picture setup past) setup.queue h n register → refused setup past (Rename actor n register) ≡ None
rename_may setup past legal actor h n register is_one can =
    let it = decoded setup past legal h n can.oldest in
    let of_n = it.of_hart in
    rename_allows setup past actor n register (record {
      actor_is = is_one;
      fated = it.fated;
      oldest = room_test past (λ g. is_first n (in_rename past g)) h n of_n
          (ap (λ o. same_number o (Some n)) can.oldest ∙ same_number-self (Some n));
      queue_room = below_test (length (queue past)) setup.queue can.queue_room;
      flight_room = room_test past (λ g. nat_lt (length (flight past g)) 64) h n of_n
          (below_test (length (flight past h)) 64 can.flight_room);
      load_room = needed (is_loading (kind_of (op_at past n)))
          (of_fetched past n
          (λ f. nat_lt (how_many (λ s. is_loading (kind_of (op_at past s))) (flight past f.hart)) most_accesses))
          (λ loading. room_test past
          (λ g. nat_lt (how_many (λ s. is_loading (kind_of (op_at past s))) (flight past g)) most_accesses) h n of_n
          (below_test (how_many (λ s. is_loading (kind_of (op_at past s))) (flight past h)) most_accesses
          (can.load_room loading)));
      store_room = needed (is_storing (kind_of (op_at past n)))
          (of_fetched past n
          (λ f. nat_lt (how_many (λ s. is_storing (kind_of (op_at past s))) (flight past f.hart)) most_accesses))
          (λ storing. room_test past
          (λ g. nat_lt (how_many (λ s. is_storing (kind_of (op_at past s))) (flight past g)) most_accesses) h n of_n
          (below_test (how_many (λ s. is_storing (kind_of (op_at past s))) (flight past h)) most_accesses
          (can.store_room storing)));
      named = same_truth-self (is_some register) (writes_register (op_at past n)) can.fits;
      unclaimed = unclaimed_test setup past register can.free;
    })

-- ---- And back

was_free : (setup : Setup) (past : List Event) (actor n : ℕ) (register : Option ℕ)
    → refused setup past (Rename actor n register) ≡ None
    → (x : ℕ) → register ≡ Some x → is_free setup past x ≡ true
was_free setup past actor n None ok x same = absurd (grind arith)
was_free setup past actor n (Some p) ok x same =
    let at : p ≡ x = grind arith in
    let rule = taken setup past actor n p ok in
    let range = rule.in_range in
    let free = rule.unclaimed in
    subst (λ z. is_free setup past z ≡ true) at (grind (arith, nat_tests))

pub rename_can : (setup : Setup) (past : List Event) (actor h n : ℕ) (register : Option ℕ)
    → refused setup past (Rename actor n register) ≡ None
    → is_of past h n ≡ true → CanRename (picture setup past) setup.queue h n register
rename_can setup past actor h n register ok of_n =
    let rule = rename_allowed setup past actor n register ok in
    record {
      oldest = first_of_hart past (in_rename past) h n of_n rule.oldest;
      queue_room = test_below (length (queue past)) setup.queue rule.queue_room;
      flight_room = test_below (length (flight past h)) 64
          (sym (at_hart past (λ g. nat_lt (length (flight past g)) 64) h n of_n) ∙ rule.flight_room);
      load_room = λ loading.
          test_below (how_many (λ s. is_loading (kind_of (op_at past s))) (flight past h)) most_accesses
          (sym (at_hart past (λ g. nat_lt (how_many (λ s. is_loading (kind_of (op_at past s))) (flight past g))
          most_accesses) h n
          of_n)
          ∙ needs (is_loading (kind_of (op_at past n)))
          (of_fetched past n
          (λ f. nat_lt (how_many (λ s. is_loading (kind_of (op_at past s))) (flight past f.hart)) most_accesses))
          rule.load_room loading);
      store_room = λ storing.
          test_below (how_many (λ s. is_storing (kind_of (op_at past s))) (flight past h)) most_accesses
          (sym (at_hart past (λ g. nat_lt (how_many (λ s. is_storing (kind_of (op_at past s))) (flight past g))
          most_accesses) h n
          of_n)
          ∙ needs (is_storing (kind_of (op_at past n)))
          (of_fetched past n
          (λ f. nat_lt (how_many (λ s. is_storing (kind_of (op_at past s))) (flight past f.hart)) most_accesses))
          rule.store_room storing);
      fits = same_truth-is (is_some register) (writes_register (op_at past n)) rule.named;
      free = was_free setup past actor n register ok;
    }

-- ---- The step

older_flight : (setup : Setup) (past : List Event) → is_legal setup past → (actor n : ℕ) (register : Option ℕ)
    → refused setup past (Rename actor n register) ≡ None → (h x : ℕ) → is_of past h n ≡ true → is_of past h x ≡ true
    → is_in_flight (fate past x) ≡ true → x < n
older_flight setup past legal actor n register ok h x of_n of_x flies =
    let was = rename_was setup past actor n register ok in
    elim (cases_lt x n) [
      | inl under ↦ under
      | inr above ↦
          let other : n ≢ x = λ same. absurd (grind (arith, nat_tests)) in
          let order = in_order setup past legal h n x of_n of_x (omega arith) (grind (arith, nat_tests)) in
          absurd (grind (arith, nat_tests))
    ]

each_is_all : (P : ℕ → Type 0) (xs : List ℕ) → Each P xs → AllByRecursion P xs
each_is_all P [] all = tt
each_is_all P (x ∷ xs) all = (all.0, each_is_all P xs all.1)

named_range : (setup : Setup) (past : List Event) → is_legal setup past → (h r w : ℕ) → h < setup.harts → 0 < r → r < 32
    → (o : Option ℕ)
    → phys past w ≡ o → or_zero o < registers_of setup
named_range setup past legal h r w there above under None at = omega arith
named_range setup past legal h r w there above under (Some p) at = in_range setup past legal w p at

mapped-range : (setup : Setup) (past : List Event) → is_legal setup past → (h r : ℕ) → h < setup.harts → 0 < r → r < 32
    → (o : Option ℕ)
    → register_by past (first_register h r) o < registers_of setup
mapped-range setup past legal h r there above under None = omega arith
mapped-range setup past legal h r there above under (Some w) =
    named_range setup past legal h r w there above under (phys past w) refl

taken_range : (setup : Setup) (past : List Event) (actor n : ℕ) (register : Option ℕ)
    → refused setup past (Rename actor n register) ≡ None
    → registers_of setup ≤ most_registers → (x : ℕ) → register ≡ Some x → x < most_registers
taken_range setup past actor n None ok fit x same = absurd (grind arith)
taken_range setup past actor n (Some p) ok fit x same =
    let at : p ≡ x = grind arith in
    let range = (taken setup past actor n p ok).in_range in
    omega arith

claimed_one : (setup : Setup) (past : List Event) (x : ℕ) → is_unclaimed setup past x ≡ false
    → is_free setup past x ≡ false
claimed_one setup past x claimed = grind (arith, nat_tests)

pub renaming : (setup : Setup) (past : List Event) → is_legal setup past → registers_of setup ≤ most_registers
    → (actor h n : ℕ) (register : Option ℕ)
    → refused setup past (Rename actor n register) ≡ None → is_of past h n ≡ true
    → IsRenaming (picture setup past) (picture setup (Rename actor n register ∷ past)) setup.queue h register
renaming setup past legal fit actor h n register ok of_n =
    let there = hart_there setup past legal h n of_n in
    record {
      number = n;
      can = rename_can setup past actor h n register ok of_n;
      step = steps-Rename setup past legal actor n register ok h of_n;
      younger = each_is_all (λ x. x < n) (flight past h) (Each-all (λ x. x < n) (flight past h) (λ x m.
          let found = member-filter (λ s. is_in_flight (fate past s)) x (numbers past h) m in
          older_flight setup past legal actor n register ok h x of_n
          (numbers-of setup past legal h x found.0) found.1));
      mapped = λ r above under. record {
        in_range = (let within = mapped-range setup past legal h r there above under (writer past h r) in omega arith);
        claimed = claimed_one setup past (mapped past h r) (mapped_claimed setup past legal h r there above under);
      };
      map = λ r above under. mapped-is setup past legal h r (omega arith);
      in_range = taken_range setup past actor n register ok fit;
    }
