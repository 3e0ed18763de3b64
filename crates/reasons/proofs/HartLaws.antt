-- A step of one hart: a decode, a rename, a retirement.
use Rattle.std.specs.Prelude.{◌≡◌, ℕ, ◌<◌, Bool, true, false, not, ◌==◌, ◌&&◌, ◌||◌, nat_lt, List, [], ◌∷◌, filter, length}
use Rattle.std.specs.Prelude.{Option, Some, None, is_some}
use Rattle.std.specs.List.{list_all}
use Rattle.std.proofs.Common.{◌∙◌, refl, sym, ap, subst, inl, inr, arith}
use Rattle.std.proofs.{lemmas.Bool.cases_Bool, lemmas.Bool.Decides.nat_tests}
use Rattle.numbers.specs.Sizes.{latch_room, most_accesses, most_in_flight}
use Rattle.rv_instr.specs.declared.op.Op.{Op}
use Rattle.events.specs.{declared.effect.Effect.Effect, declared.effect.Next.Next, declared.effect.Written.Written}
use Rattle.events.specs.declared.effect.Next.TheVariants.{Pc, Ended, Stopped}
use Rattle.events.specs.declared.event.Event.{Event}
use Rattle.events.specs.declared.event.Event.TheVariants.{Fetch, Decode, Rename, Issue, Complete, Drop, Retire, Refetch}
use Rattle.smt_model.specs.{declared.config.Status.Status, Asks.AskDecode, Asks.AskRename, Asks.AskRetire}
use Rattle.smt_model.specs.declared.config.Status.TheVariants as status
use Rattle.smt_model.specs.{Asks.answers, Setup.Setup, Setup.registers_of, Jobs.is_actor, Memory.status}
use Rattle.smt_model.specs.{Memory.is_going, Plain.is_going_status, Picture.is_free, Registers.is_unclaimed}
use Rattle.smt_model.specs.Basics.{below, first, holds_of, how_many, same_number, same_truth}
use Rattle.smt_model.specs.Comparisons.{same_effect, same_next, same_write}
use Rattle.smt_model.specs.Kinds.{kind_of, is_loading, is_storing, writes_register}
use Rattle.smt_model.specs.Fates.{Fate, Fetched, fate, fetching, is, is_in_flight, is_live, is_of, op_at, stage}
use Rattle.smt_model.specs.Fates.{InDecode, InRename, Completed}
use Rattle.smt_model.specs.Flights.{numbers, in_decode, in_rename, flight, queue}
use Rattle.smt_model.specs.Rules.{refused, is_legal, is_first, is_fresh, of_fetched, effect_now}
use Rattle.smt_model.proofs.Allowed.{decode_allowed, decode_allows, rename_allowed, rename_allows, retire_allowed}
use Rattle.smt_model.proofs.Allowed.{retire_allows, refetch_allowed, refetch_allows}
use Rattle.smt_model.proofs.Lists.{member, member-filter, first-member}
use Rattle.smt_model.proofs.{Fates.Moves.same_number-self, Registers.Claims.below-member}
use Rattle.smt_model.proofs.Fates.Numbers.{at_hart, first_of_hart, known_fetched, numbers-of}
use Rattle.smt_laws.proofs.{Fates.Choosing.hart_there, Fates.Choosing.left}
use Rattle.smt_laws.proofs.Registers.Namings.{same_truth-is}
use Rattle.reasons.specs.Reasons.{named, first_named, standing, of_hart, decode_reasons, rename_reasons}
use Rattle.reasons.specs.Reasons.{retire_reasons, oldest_decoded, is_crowded, is_load, is_store, no_register}
use Rattle.reasons.specs.Reasons.{not_completed, progress_of}
use Rattle.reasons.specs.{declared.reason.Reason.Reason, Exact.MayCome}
use Rattle.reasons.specs.declared.reason.Reason.TheVariants as reason
use Rattle.reasons.proofs.Naming.{NoneHolds, none_named, named_none, unnamed, fails, not_false, not_true, not_empty}
use Rattle.reasons.proofs.Naming.{first_of, not_all, one_fails}

-- ---- What all three have

going_stands : (h : ℕ) (stood : Status) → is_going_status stood ≡ true → standing h stood ≡ None
going_stands h status.Going goes = refl
going_stands h (status.Ended number) goes = absurd (grind arith)
going_stands h (status.Stopped cause) goes = absurd (grind arith)

live_goes : (setup : Setup) (past : List Event) → is_legal setup past → (h s : ℕ) → is_of past h s ≡ true
    → is_live (fate past s) ≡ true → is_going past h ≡ true
live_goes setup past legal h s of_h lives =
    elim (cases_Bool (is_going past h)) [
      | inl goes ↦ goes
      | inr gone ↦
          let dead = left setup past legal h gone s of_h in
          let both : false ≡ true = sym dead ∙ lives in
          absurd (grind arith)
    ]

pub hart_none : (setup : Setup) (past : List Event) → is_legal setup past → (k h s : ℕ) → is_actor setup k ≡ true
    → is_of past h s ≡ true → is_live (fate past s) ≡ true → (others : List (Option Reason)) → NoneHolds others
    → NoneHolds (of_hart setup past k h others)
hart_none setup past legal k h s is_one of_h lives others none =
    let there = hart_there setup past legal h s of_h in
    let inside : nat_lt h setup.harts ≡ true = grind (arith, nat_tests) in (
      unnamed (not (is_actor setup k)) (reason.NoActor k) (not_false (is_actor setup k) is_one),
      (
        unnamed (not (nat_lt h setup.harts)) (reason.NoHart h) (not_false (nat_lt h setup.harts) inside),
        (going_stands h (status past h) (live_goes setup past legal h s of_h lives), none),
      ),
    )

pub asked_both : (k s h : ℕ) (past : List Event) → is_of past h s ≡ true → ((k == k) && is_of past h s) ≡ true
asked_both k s h past of_h = grind (arith, nat_tests)

-- The first in a place of a hart is of the hart, and has come there.
pub record IsFirst (past : List Event) (h s : ℕ) (test : Fate → Bool) : Type 0 where
  pub of_h : is_of past h s ≡ true
  pub fated : test (fate past s) ≡ true

pub first_is : (setup : Setup) (past : List Event) → is_legal setup past → (test : Fate → Bool) (h s : ℕ)
    → member s (filter (λ t. test (fate past t)) (numbers past h)) ≡ true → IsFirst past h s test
first_is setup past legal test h s inside =
    let both = member-filter (λ t. test (fate past t)) s (numbers past h) inside in
    record { of_h = numbers-of setup past legal h s both.0; fated = both.1 }

pub at_place : (past : List Event) (test : ℕ → Bool) (h s : ℕ) → is_of past h s ≡ true → test h ≡ true
    → of_fetched past s (λ f. test f.hart) ≡ true
at_place past test h s of_h holds = at_hart past test h s of_h ∙ holds

pub from_place : (past : List Event) (test : ℕ → Bool) (h s : ℕ) → is_of past h s ≡ true
    → of_fetched past s (λ f. test f.hart) ≡ true → test h ≡ true
from_place past test h s of_h holds = sym (at_hart past test h s of_h) ∙ holds

pub is_the_first : (xs : List ℕ) (s : ℕ) → first xs ≡ Some s → is_first s xs ≡ true
is_the_first xs s at = ap (λ o. same_number o (Some s)) at ∙ same_number-self (Some s)

-- ---- A decode

pub decode_may : (setup : Setup) (past : List Event) → is_legal setup past → (k h : ℕ)
    → first_named (decode_reasons setup past k h) ≡ None → MayCome setup past (AskDecode k h)
decode_may setup past legal k h none =
    let each = named_none (decode_reasons setup past k h) none in
    let is_one = not_true (is_actor setup k) (fails (not (is_actor setup k)) (reason.NoActor k) each.0) in
    let oldest = first_of (in_decode past h)
    (fails (length (in_decode past h) == 0) (reason.NothingFetched h) each.1.1.1.0) in
    let room = not_true (nat_lt (length (in_rename past h)) latch_room)
    (fails (not (nat_lt (length (in_rename past h)) latch_room)) (reason.RenameLatchFull h) each.1.1.1.1.0) in
    let s = oldest.number in
    let it = first_is setup past legal (λ f. is f InDecode) h s (first-member (in_decode past h) s oldest.is) in
    record {
      event = Decode k s;
      answer = asked_both k s h past it.of_h;
      allowed = decode_allows setup past k s (record {
        actor_is = is_one;
        fated = it.fated;
        oldest = at_place past (λ g. is_first s (in_decode past g)) h s it.of_h
            (is_the_first (in_decode past h) s oldest.is);
        room = at_place past (λ g. nat_lt (length (in_rename past g)) latch_room) h s it.of_h room;
      });
    }

decode_none : (setup : Setup) (past : List Event) → is_legal setup past → (k h s : ℕ) → is_of past h s ≡ true
    → refused setup past (Decode k s) ≡ None → first_named (decode_reasons setup past k h) ≡ None
decode_none setup past legal k h s of_h ok =
    let rule = decode_allowed setup past k s ok in
    let oldest = first_of_hart past (in_decode past) h s of_h rule.oldest in
    let room = from_place past (λ g. nat_lt (length (in_rename past g)) latch_room) h s of_h rule.room in
    let fated = rule.fated in
    let lives : is_live (fate past s) ≡ true = grind (arith, nat_tests) in
    none_named (decode_reasons setup past k h) (hart_none setup past legal k h s rule.actor_is of_h lives
    (
    named (length (in_decode past h) == 0) (reason.NothingFetched h)
    ∷ named (not (nat_lt (length (in_rename past h)) latch_room)) (reason.RenameLatchFull h)
    ∷ []
    ) (
      unnamed (length (in_decode past h) == 0) (reason.NothingFetched h) (not_empty (in_decode past h) s oldest),
      (
        unnamed (not (nat_lt (length (in_rename past h)) latch_room)) (reason.RenameLatchFull h)
            (not_false (nat_lt (length (in_rename past h)) latch_room) room),
        tt,
      ),
    ))

pub decode_by : (setup : Setup) (past : List Event) → is_legal setup past → (k h : ℕ) (e : Event)
    → answers (AskDecode k h) past e ≡ true → refused setup past e ≡ None
    → first_named (decode_reasons setup past k h) ≡ None
decode_by setup past legal k h (Decode actor s) asked ok =
    let same : actor ≡ k = grind (arith, nat_tests) in
    let of_h : is_of past h s ≡ true = grind arith in
    decode_none setup past legal k h s of_h (subst (λ j. refused setup past (Decode j s) ≡ None) same ok)
decode_by setup past legal k h (Fetch actor hart s pc word predicted) asked ok = absurd (grind arith)
decode_by setup past legal k h (Rename actor s phys) asked ok = absurd (grind arith)
decode_by setup past legal k h (Issue actor s) asked ok = absurd (grind arith)
decode_by setup past legal k h (Complete actor s outcome) asked ok = absurd (grind arith)
decode_by setup past legal k h (Drop actor s) asked ok = absurd (grind arith)
decode_by setup past legal k h (Retire actor s effect) asked ok = absurd (grind arith)
decode_by setup past legal k h (Refetch actor s) asked ok = absurd (grind arith)

-- ---- A retirement

same_next-self : (n : Next) → same_next n n ≡ true
same_next-self (Pc pc) = grind (arith, nat_tests)
same_next-self (Ended number) = grind (arith, nat_tests)
same_next-self (Stopped cause) = grind (arith, nat_tests)

same_write-self : (w : Option Written) → same_write w w ≡ true
same_write-self None = refl
same_write-self (Some w) = grind (arith, nat_tests)

same_effect-self : (x : Effect) → same_effect x x ≡ true
same_effect-self x =
    rw (same_number-self x.value, same_next-self x.next, same_write-self x.write, same_number-self x.out) refl

-- The first of a flight, which is completed, retires or is fetched again.
module _ (setup : Setup) (past : List Event) (k h s : ℕ) (f : Fetched) (is_one : is_actor setup k ≡ true)
    (fated : is (fate past s) Completed ≡ true) (of_h : is_of past h s ≡ true)
    (found : fetching past s ≡ Some f) (oldest : first (flight past h) ≡ Some s) where
  first_of_all : of_fetched past s (λ g. is_first s (flight past g.hart)) ≡ true
  first_of_all = at_place past (λ g. is_first s (flight past g)) h s of_h (is_the_first (flight past h) s oldest)

  by_freshness : (b : Bool) → is_fresh setup past f ≡ b → MayCome setup past (AskRetire k h)
  by_freshness true fresh =
      let effect = effect_now setup past s f in
      record {
        event = Retire k s effect;
        answer = asked_both k s h past of_h;
        allowed = retire_allows setup past k s effect (record {
          actor_is = is_one;
          fated = fated;
          oldest = first_of_all;
          effect_is = ap (holds_of (λ g. same_effect effect (effect_now setup past s g))) found
              ∙ same_effect-self effect;
          fresh = ap (holds_of (is_fresh setup past)) found ∙ fresh;
        });
      }
  by_freshness false stale = record {
    event = Refetch k s;
    answer = asked_both k s h past of_h;
    allowed = refetch_allows setup past k s (record {
      actor_is = is_one;
      fated = fated;
      oldest = first_of_all;
      stale = ap (holds_of (λ g. not (is_fresh setup past g))) found ∙ ap not stale;
    });
  }

pub retire_may : (setup : Setup) (past : List Event) → is_legal setup past → (k h : ℕ)
    → first_named (retire_reasons setup past k h) ≡ None → MayCome setup past (AskRetire k h)
retire_may setup past legal k h none =
    let each = named_none (retire_reasons setup past k h) none in
    let is_one = not_true (is_actor setup k) (fails (not (is_actor setup k)) (reason.NoActor k) each.0) in
    let oldest = first_of (flight past h)
    (fails (length (flight past h) == 0) (reason.NothingInFlight h) each.1.1.1.0) in
    let s = oldest.number in
    let done : not_completed past (Some s) ≡ None =
    subst (λ o. not_completed past o ≡ None) oldest.is each.1.1.1.1.0 in
    let fated = not_true (is (fate past s) Completed)
    (fails (not (is (fate past s) Completed)) (reason.NotCompleted s (progress_of (fate past s))) done) in
    let it = first_is setup past legal is_in_flight h s (first-member (flight past h) s oldest.is) in
    let found = known_fetched setup past legal s (grind (arith, nat_tests)) in
    by_freshness setup past k h s found.fetch is_one fated it.of_h found.fetched oldest.is _ refl

completed_none : (past : List Event) (o : Option ℕ) (s : ℕ) → o ≡ Some s → is (fate past s) Completed ≡ true
    → not_completed past o ≡ None
completed_none past o s at fated =
    ap (not_completed past) at
    ∙ unnamed (not (is (fate past s) Completed)) (reason.NotCompleted s (progress_of (fate past s)))
    (not_false (is (fate past s) Completed) fated)

retire_none : (setup : Setup) (past : List Event) → is_legal setup past → (k h s : ℕ) → is_of past h s ≡ true
    → is_actor setup k ≡ true → is (fate past s) Completed ≡ true
    → of_fetched past s (λ f. is_first s (flight past f.hart)) ≡ true
    → first_named (retire_reasons setup past k h) ≡ None
retire_none setup past legal k h s of_h is_one fated first_of_all =
    let oldest = first_of_hart past (flight past) h s of_h first_of_all in
    let lives : is_live (fate past s) ≡ true = grind (arith, nat_tests) in
    none_named (retire_reasons setup past k h) (hart_none setup past legal k h s is_one of_h lives
    (
    named (length (flight past h) == 0) (reason.NothingInFlight h)
    ∷ not_completed past (first (flight past h))
    ∷ []
    ) (
      unnamed (length (flight past h) == 0) (reason.NothingInFlight h) (not_empty (flight past h) s oldest),
      (completed_none past (first (flight past h)) s oldest fated, tt),
    ))

pub retire_by : (setup : Setup) (past : List Event) → is_legal setup past → (k h : ℕ) (e : Event)
    → answers (AskRetire k h) past e ≡ true → refused setup past e ≡ None
    → first_named (retire_reasons setup past k h) ≡ None
retire_by setup past legal k h (Retire actor s effect) asked ok =
    let same : actor ≡ k = grind (arith, nat_tests) in
    let of_h : is_of past h s ≡ true = grind arith in
    let rule = retire_allowed setup past actor s effect ok in
    subst (λ j. first_named (retire_reasons setup past j h) ≡ None) same
    (retire_none setup past legal actor h s of_h rule.actor_is rule.fated rule.oldest)
retire_by setup past legal k h (Refetch actor s) asked ok =
    let same : actor ≡ k = grind (arith, nat_tests) in
    let of_h : is_of past h s ≡ true = grind arith in
    let rule = refetch_allowed setup past actor s ok in
    subst (λ j. first_named (retire_reasons setup past j h) ≡ None) same
    (retire_none setup past legal actor h s of_h rule.actor_is rule.fated rule.oldest)
retire_by setup past legal k h (Fetch actor hart s pc word predicted) asked ok = absurd (grind arith)
retire_by setup past legal k h (Decode actor s) asked ok = absurd (grind arith)
retire_by setup past legal k h (Rename actor s phys) asked ok = absurd (grind arith)
retire_by setup past legal k h (Issue actor s) asked ok = absurd (grind arith)
retire_by setup past legal k h (Complete actor s outcome) asked ok = absurd (grind arith)
retire_by setup past legal k h (Drop actor s) asked ok = absurd (grind arith)
