-- A rename: what each of its rules asks, as a reason.
use Rattle.std.specs.Prelude.{◌≡◌, ℕ, ◌<◌, Bool, true, false, not, ◌==◌, ◌&&◌, ◌||◌, nat_lt, List, [], ◌∷◌, length}
use Rattle.std.specs.Prelude.{Option, Some, None, is_some}
use Rattle.std.specs.List.{list_all}
use Rattle.std.proofs.Common.{◌∙◌, refl, sym, ap, subst, inl, inr, arith}
use Rattle.std.proofs.{lemmas.Bool.cases_Bool, lemmas.Bool.and_parts, lemmas.Bool.Decides.nat_tests}
use Rattle.numbers.specs.Sizes.{most_accesses, most_in_flight}
use Rattle.rv_instr.specs.declared.op.Op.{Op}
use Rattle.events.specs.declared.event.Event.{Event}
use Rattle.events.specs.declared.event.Event.TheVariants.{Fetch, Decode, Rename, Issue, Complete, Drop, Retire, Refetch}
use Rattle.smt_model.specs.{Asks.AskRename, Asks.answers, Setup.Setup, Setup.registers_of, Jobs.is_actor}
use Rattle.smt_model.specs.{Picture.is_free, Registers.is_unclaimed}
use Rattle.smt_model.specs.Basics.{below, first, holds_of, how_many, same_truth}
use Rattle.smt_model.specs.Kinds.{kind_of, is_loading, is_storing, writes_register}
use Rattle.smt_model.specs.Fates.{fate, is, is_live, is_of, op_at, InRename}
use Rattle.smt_model.specs.Flights.{in_rename, flight, queue}
use Rattle.smt_model.specs.Rules.{refused, is_legal, is_first, of_fetched, has_room}
use Rattle.smt_model.proofs.Allowed.{rename_allowed, rename_allows}
use Rattle.smt_model.proofs.Lists.{member, first-member}
use Rattle.smt_model.proofs.Registers.Claims.{below-member}
use Rattle.smt_model.proofs.Fates.Numbers.{at_hart, first_of_hart}
use Rattle.reasons.specs.Reasons.{named, first_named, rename_reasons, oldest_decoded, is_crowded, is_load, is_store}
use Rattle.reasons.specs.Reasons.{no_register}
use Rattle.reasons.specs.{declared.reason.Reason.Reason, Exact.MayCome}
use Rattle.reasons.specs.declared.reason.Reason.TheVariants as reason
use Rattle.reasons.proofs.Naming.{none_named, named_none, unnamed, fails, not_false, not_true, not_empty}
use Rattle.reasons.proofs.Naming.{first_of, not_all, one_fails}
use Rattle.reasons.proofs.HartLaws.{hart_none, asked_both, first_is, at_place, from_place, is_the_first}

-- ---- Tests of those of one kind alone

needed : (a b : Bool) → (a && not b) ≡ false → (not a || b) ≡ true
needed true true spare = refl
needed true false spare = absurd (grind arith)
needed false b spare = refl

need : (a b : Bool) → (not a || b) ≡ true → (a && not b) ≡ false
need true true holds = refl
need true false holds = absurd (grind arith)
need false b holds = refl

-- ---- The hart's oldest decoded instruction is s

abbrev fits : List Event → (Op → Bool) → ℕ → Bool
fits past test g = nat_lt (how_many (λ t. test (op_at past t)) (flight past g)) most_accesses

abbrev finds_room : List Event → (Op → Bool) → ℕ → Bool
finds_room past test s = not (test (op_at past s)) || of_fetched past s (λ f. fits past test f.hart)

oldest_is : (past : List Event) (test : Op → Bool) (h s : ℕ) → first (in_rename past h) ≡ Some s
    → oldest_decoded test past h ≡ test (op_at past s)
oldest_is past test h s oldest = ap (holds_of (λ t. test (op_at past t))) oldest

-- There is room for one more of its kind exactly where its hart isn't crowded by them.
room_of : (past : List Event) (test : Op → Bool) (h s : ℕ) → is_of past h s ≡ true
    → first (in_rename past h) ≡ Some s → (oldest_decoded test past h && is_crowded test past h) ≡ false
    → finds_room past test s ≡ true
room_of past test h s of_h oldest spare =
    let at : (test (op_at past s) && not (fits past test h)) ≡ false =
    sym (ap (λ b. b && not (fits past test h)) (oldest_is past test h s oldest)) ∙ spare in
    ap (λ b. not (test (op_at past s)) || b) (at_hart past (fits past test) h s of_h)
    ∙ needed (test (op_at past s)) (fits past test h) at

crowd_of : (past : List Event) (test : Op → Bool) (h s : ℕ) → is_of past h s ≡ true
    → first (in_rename past h) ≡ Some s → finds_room past test s ≡ true
    → (oldest_decoded test past h && is_crowded test past h) ≡ false
crowd_of past test h s of_h oldest room =
    let at : (not (test (op_at past s)) || fits past test h) ≡ true =
    sym (ap (λ b. not (test (op_at past s)) || b) (at_hart past (fits past test) h s of_h)) ∙ room in
    ap (λ b. b && not (fits past test h)) (oldest_is past test h s oldest)
    ∙ need (test (op_at past s)) (fits past test h) at

-- ---- Its register

-- The register that it takes, where it writes one, is free.
record IsRegister (setup : Setup) (past : List Event) (s : ℕ) : Type 0 where
  register : Option ℕ
  fitting : same_truth (is_some register) (writes_register (op_at past s)) ≡ true
  unclaimed : (not (is_some register)
      || holds_of (λ p. nat_lt p (registers_of setup) && is_unclaimed setup past p) register) ≡ true

register_of : (setup : Setup) (past : List Event) (s : ℕ) → (writes_register (op_at past s) && no_register setup past) ≡ false
    → IsRegister setup past s
register_of setup past s spare =
    elim (cases_Bool (writes_register (op_at past s))) [
      | inl writes ↦
          let some : no_register setup past ≡ false =
          sym (ap (λ b. b && no_register setup past) writes) ∙ spare in
          let one = not_all (λ p. not (is_free setup past p)) (below (registers_of setup)) some in
          record {
            register = Some one.number;
            fitting = ap (same_truth true) writes;
            unclaimed = not_true (is_free setup past one.number) one.failed;
          }
      | inr none ↦ record { register = None; fitting = ap (same_truth false) none; unclaimed = refl }
    ]

free_in : (n p : ℕ) (unclaimed : Bool) → (nat_lt p n && unclaimed) ≡ true → p < n
free_in n p unclaimed free = grind (arith, nat_tests)

register_free : (setup : Setup) (past : List Event) (s : ℕ) (phys : Option ℕ)
    → same_truth (is_some phys) (writes_register (op_at past s)) ≡ true
    → (not (is_some phys) || holds_of (λ p. nat_lt p (registers_of setup) && is_unclaimed setup past p) phys) ≡ true
    → (writes_register (op_at past s) && no_register setup past) ≡ false
register_free setup past s None fitting free =
    let none : writes_register (op_at past s) ≡ false = grind arith in
    rw none refl
register_free setup past s (Some p) fitting free =
    let is : is_free setup past p ≡ true = free in
    let inside = below-member (registers_of setup) p (free_in (registers_of setup) p (is_unclaimed setup past p) free) in
    let some = one_fails (λ x. not (is_free setup past x)) (below (registers_of setup)) p inside
    (not_false (is_free setup past p) is) in
    let either : (a b : Bool) → b ≡ false → (a && b) ≡ false = λ a b wrong. grind arith in
    either (writes_register (op_at past s)) (no_register setup past) some

-- ---- A rename

pub rename_may : (setup : Setup) (past : List Event) → is_legal setup past → (k h : ℕ)
    → first_named (rename_reasons setup past k h) ≡ None → MayCome setup past (AskRename k h)
rename_may setup past legal k h none =
    let each = named_none (rename_reasons setup past k h) none in
    let others = each.1.1.1 in
    let is_one = not_true (is_actor setup k) (fails (not (is_actor setup k)) (reason.NoActor k) each.0) in
    let oldest = first_of (in_rename past h)
    (fails (length (in_rename past h) == 0) (reason.NothingDecoded h) others.0) in
    let s = oldest.number in
    let it = first_is setup past legal (λ f. is f InRename) h s (first-member (in_rename past h) s oldest.is) in
    let of_h = it.of_h in
    let writes : (writes_register (op_at past s) && no_register setup past) ≡ false =
    sym (ap (λ b. b && no_register setup past) (oldest_is past writes_register h s oldest.is))
    ∙ fails (oldest_decoded writes_register past h && no_register setup past) reason.NoFreeRegister
    others.1.1.1.1.1.0 in
    let taken = register_of setup past s writes in
    record {
      event = Rename k s taken.register;
      answer = asked_both k s h past of_h;
      allowed = rename_allows setup past k s taken.register (record {
        actor_is = is_one;
        fated = it.fated;
        oldest = at_place past (λ g. is_first s (in_rename past g)) h s of_h
            (is_the_first (in_rename past h) s oldest.is);
        queue_room = not_true (nat_lt (length (queue past)) setup.queue)
            (fails (not (nat_lt (length (queue past)) setup.queue)) reason.QueueFull others.1.0);
        flight_room = at_place past (λ g. nat_lt (length (flight past g)) most_in_flight) h s of_h
            (not_true (nat_lt (length (flight past h)) most_in_flight)
            (fails (not (nat_lt (length (flight past h)) most_in_flight)) (reason.FlightFull h) others.1.1.0));
        load_room = room_of past is_load h s of_h oldest.is
            (fails (oldest_decoded is_load past h && is_crowded is_load past h) (reason.LoadsFull h) others.1.1.1.0);
        store_room = room_of past is_store h s of_h oldest.is
            (fails (oldest_decoded is_store past h && is_crowded is_store past h) (reason.StoresFull h)
            others.1.1.1.1.0);
        named = taken.fitting;
        unclaimed = taken.unclaimed;
      });
    }

rename_none : (setup : Setup) (past : List Event) → is_legal setup past → (k h s : ℕ) (phys : Option ℕ)
    → is_of past h s ≡ true → refused setup past (Rename k s phys) ≡ None
    → first_named (rename_reasons setup past k h) ≡ None
rename_none setup past legal k h s phys of_h ok =
    let rule = rename_allowed setup past k s phys ok in
    let oldest = first_of_hart past (in_rename past) h s of_h rule.oldest in
    let room = from_place past (λ g. nat_lt (length (flight past g)) most_in_flight) h s of_h rule.flight_room in
    let fated = rule.fated in
    let lives : is_live (fate past s) ≡ true = grind (arith, nat_tests) in
    none_named (rename_reasons setup past k h) (hart_none setup past legal k h s rule.actor_is of_h lives
    (
    named (length (in_rename past h) == 0) (reason.NothingDecoded h)
    ∷ named (not (nat_lt (length (queue past)) setup.queue)) reason.QueueFull
    ∷ named (not (nat_lt (length (flight past h)) most_in_flight)) (reason.FlightFull h)
    ∷ named (oldest_decoded is_load past h && is_crowded is_load past h) (reason.LoadsFull h)
    ∷ named (oldest_decoded is_store past h && is_crowded is_store past h) (reason.StoresFull h)
    ∷ named (oldest_decoded writes_register past h && no_register setup past) reason.NoFreeRegister
    ∷ []
    ) (
      unnamed (length (in_rename past h) == 0) (reason.NothingDecoded h) (not_empty (in_rename past h) s oldest),
      (
        unnamed (not (nat_lt (length (queue past)) setup.queue)) reason.QueueFull
            (not_false (nat_lt (length (queue past)) setup.queue) rule.queue_room),
        (
          unnamed (not (nat_lt (length (flight past h)) most_in_flight)) (reason.FlightFull h)
              (not_false (nat_lt (length (flight past h)) most_in_flight) room),
          (
            unnamed (oldest_decoded is_load past h && is_crowded is_load past h) (reason.LoadsFull h)
                (crowd_of past is_load h s of_h oldest rule.load_room),
            (
              unnamed (oldest_decoded is_store past h && is_crowded is_store past h) (reason.StoresFull h)
                  (crowd_of past is_store h s of_h oldest rule.store_room),
              (
                unnamed (oldest_decoded writes_register past h && no_register setup past) reason.NoFreeRegister
                    (ap (λ b. b && no_register setup past) (oldest_is past writes_register h s oldest)
                    ∙ register_free setup past s phys rule.named rule.unclaimed),
                tt,
              ),
            ),
          ),
        ),
      ),
    ))

pub rename_by : (setup : Setup) (past : List Event) → is_legal setup past → (k h : ℕ) (e : Event)
    → answers (AskRename k h) past e ≡ true → refused setup past e ≡ None
    → first_named (rename_reasons setup past k h) ≡ None
rename_by setup past legal k h (Rename actor s phys) asked ok =
    let same : actor ≡ k = grind (arith, nat_tests) in
    let of_h : is_of past h s ≡ true = grind arith in
    rename_none setup past legal k h s phys of_h (subst (λ j. refused setup past (Rename j s phys) ≡ None) same ok)
rename_by setup past legal k h (Fetch actor hart s pc word predicted) asked ok = absurd (grind arith)
rename_by setup past legal k h (Decode actor s) asked ok = absurd (grind arith)
rename_by setup past legal k h (Issue actor s) asked ok = absurd (grind arith)
rename_by setup past legal k h (Complete actor s outcome) asked ok = absurd (grind arith)
rename_by setup past legal k h (Drop actor s) asked ok = absurd (grind arith)
rename_by setup past legal k h (Retire actor s effect) asked ok = absurd (grind arith)
rename_by setup past legal k h (Refetch actor s) asked ok = absurd (grind arith)
