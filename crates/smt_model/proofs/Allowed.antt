-- What an allowed event says: one named fact for each rule of each kind of event, and back.
use Rattle.std.specs.Prelude.{◌≡◌, ℕ, Bool, true, not, ◌==◌, ◌&&◌, ◌||◌, nat_lt, List, [], ◌∷◌, length, Option, Some}
use Rattle.std.specs.Prelude.{None, is_some, is_none}
use Rattle.std.proofs.Common.{refl, arith}
use Rattle.numbers.specs.Sizes.{latch_room, most_accesses, most_in_flight}
use Rattle.elf_image.specs.Image.{word_now}
use Rattle.events.specs.{declared.effect.Outcome.Outcome, declared.effect.Effect.Effect, declared.event.Event.Event}
use Rattle.events.specs.declared.event.Event.TheVariants.{Fetch, Decode, Rename, Issue, Complete, Drop, Retire, Refetch}
use Rattle.smt_model.specs.Basics.{holds_of, same_number, same_truth, how_many}
use Rattle.smt_model.specs.{Setup.Setup, Setup.registers_of, Registers.is_unclaimed, Registers.is_ready}
use Rattle.smt_model.specs.{Fetching.choice, Fetching.fetch_pc, Jobs.is_actor, Jobs.unit_of_actor, Jobs.job}
use Rattle.smt_model.specs.{Memory.byte_at, Comparisons.same_outcome, Comparisons.same_effect}
use Rattle.smt_model.specs.Kinds.{kind_of, is_loading, is_storing, writes_register}
use Rattle.smt_model.specs.Fates.{fetches, op_at, fate, is, InDecode, InRename, Renamed, Completed, Squashed}
use Rattle.smt_model.specs.Flights.{in_decode, in_rename, flight, queue}
use Rattle.smt_model.specs.Rules.{outcome_now, effect_now, of_fetched, is_first, is_for, is_oldest_ready, rules}
use Rattle.smt_model.specs.Rules.{first_failing, refused, is_fresh}

-- ---- A list of rules

-- All tests are true.
abbrev pub AllHold : List (ℕ × Bool) → Type 0
AllHold [] = Unit {0}
AllHold (rule ∷ rest) = (rule.1 ≡ true) × AllHold rest

pub all_hold : (rules : List (ℕ × Bool)) → first_failing rules ≡ None → AllHold rules
all_hold [] none = tt
all_hold (rule ∷ rest) none = (grind arith, all_hold rest (grind arith))

pub none_fails : (rules : List (ℕ × Bool)) → AllHold rules → first_failing rules ≡ None
none_fails [] all = refl
none_fails (rule ∷ rest) all = rw all.0 (none_fails rest all.1)

pub allowed : (setup : Setup) (past : List Event) (e : Event) → refused setup past e ≡ None
    → AllHold (rules setup past e)
unfolding refused
allowed setup past e ok = all_hold (rules setup past e) ok

pub allows : (setup : Setup) (past : List Event) (e : Event) → AllHold (rules setup past e)
    → refused setup past e ≡ None
unfolding refused
allows setup past e all = none_fails (rules setup past e) all

-- ---- Each kind of event

pub record FetchAllowed (setup : Setup) (past : List Event) (actor hart seq pc : ℕ) (word : Option ℕ) : Type 0 where
  pub actor_is : is_actor setup actor ≡ true
  pub chosen : same_number (choice setup past) (Some hart) ≡ true
  pub next_number : (seq == fetches past) ≡ true
  pub pc_is : (pc == fetch_pc setup past hart) ≡ true
  pub word_is : same_number word (word_now setup.image (byte_at setup past) pc) ≡ true

pub record DecodeAllowed (setup : Setup) (past : List Event) (actor seq : ℕ) : Type 0 where
  pub actor_is : is_actor setup actor ≡ true
  pub fated : is (fate past seq) InDecode ≡ true
  pub oldest : of_fetched past seq (λ f. is_first seq (in_decode past f.hart)) ≡ true
  pub room : of_fetched past seq (λ f. nat_lt (length (in_rename past f.hart)) latch_room) ≡ true

pub record RenameAllowed (setup : Setup) (past : List Event) (actor seq : ℕ) (phys : Option ℕ) : Type 0 where
  pub actor_is : is_actor setup actor ≡ true
  pub fated : is (fate past seq) InRename ≡ true
  pub oldest : of_fetched past seq (λ f. is_first seq (in_rename past f.hart)) ≡ true
  pub queue_room : nat_lt (length (queue past)) setup.queue ≡ true
  pub flight_room : of_fetched past seq (λ f. nat_lt (length (flight past f.hart)) most_in_flight) ≡ true
  pub load_room :
      (
      not (is_loading (kind_of (op_at past seq)))
      || of_fetched past seq (λ f. nat_lt (how_many (λ s. is_loading (kind_of (op_at past s))) (flight past f.hart))
      most_accesses)
      ) ≡ true
  pub store_room :
      (
      not (is_storing (kind_of (op_at past seq)))
      || of_fetched past seq (λ f. nat_lt (how_many (λ s. is_storing (kind_of (op_at past s))) (flight past f.hart))
      most_accesses)
      ) ≡ true
  pub named : same_truth (is_some phys) (writes_register (op_at past seq)) ≡ true
  pub unclaimed : (not (is_some phys)
      || holds_of (λ p. nat_lt p (registers_of setup) && is_unclaimed setup past p) phys) ≡ true

pub record IssueAllowed (setup : Setup) (past : List Event) (actor seq : ℕ) : Type 0 where
  pub actor_is : is_actor setup actor ≡ true
  pub idle : (is_some (unit_of_actor setup actor) && is_none (job past actor)) ≡ true
  pub fated : is (fate past seq) Renamed ≡ true
  pub suited : is_for setup past actor seq ≡ true
  pub ready : is_ready setup past seq ≡ true
  pub oldest : is_oldest_ready setup past actor seq ≡ true

pub record CompleteAllowed (setup : Setup) (past : List Event) (actor seq : ℕ) (outcome : Outcome) : Type 0 where
  pub actor_is : is_actor setup actor ≡ true
  pub lent : same_number (job past actor) (Some seq) ≡ true
  pub spared : not (is (fate past seq) Squashed) ≡ true
  pub outcome_is : of_fetched past seq (λ f. same_outcome outcome (outcome_now setup past seq f)) ≡ true

pub record DropAllowed (setup : Setup) (past : List Event) (actor seq : ℕ) : Type 0 where
  pub actor_is : is_actor setup actor ≡ true
  pub lent : same_number (job past actor) (Some seq) ≡ true
  pub fated : is (fate past seq) Squashed ≡ true

pub record RetireAllowed (setup : Setup) (past : List Event) (actor seq : ℕ) (effect : Effect) : Type 0 where
  pub actor_is : is_actor setup actor ≡ true
  pub fated : is (fate past seq) Completed ≡ true
  pub oldest : of_fetched past seq (λ f. is_first seq (flight past f.hart)) ≡ true
  pub effect_is : of_fetched past seq (λ f. same_effect effect (effect_now setup past seq f)) ≡ true
  pub fresh : of_fetched past seq (is_fresh setup past) ≡ true

pub record RefetchAllowed (setup : Setup) (past : List Event) (actor seq : ℕ) : Type 0 where
  pub actor_is : is_actor setup actor ≡ true
  pub fated : is (fate past seq) Completed ≡ true
  pub oldest : of_fetched past seq (λ f. is_first seq (flight past f.hart)) ≡ true
  pub stale : of_fetched past seq (λ f. not (is_fresh setup past f)) ≡ true

-- ---- From the refusal that doesn't come

pub fetch_allowed : (setup : Setup) (past : List Event) (actor hart seq pc : ℕ) (word : Option ℕ) (predicted : ℕ)
    → refused setup past (Fetch actor hart seq pc word predicted) ≡ None
    → FetchAllowed setup past actor hart seq pc word
fetch_allowed setup past actor hart seq pc word predicted ok =
    let all = allowed setup past (Fetch actor hart seq pc word predicted) ok in
    record { actor_is = all.0; chosen = all.1.0; next_number = all.1.1.0; pc_is = all.1.1.1.0; word_is = all.1.1.1.1.0 }

pub decode_allowed : (setup : Setup) (past : List Event) (actor seq : ℕ) → refused setup past (Decode actor seq) ≡ None
    → DecodeAllowed setup past actor seq
decode_allowed setup past actor seq ok =
    let all = allowed setup past (Decode actor seq) ok in
    record { actor_is = all.0; fated = all.1.0; oldest = all.1.1.0; room = all.1.1.1.0 }

pub rename_allowed : (setup : Setup) (past : List Event) (actor seq : ℕ) (phys : Option ℕ)
    → refused setup past (Rename actor seq phys) ≡ None
    → RenameAllowed setup past actor seq phys
rename_allowed setup past actor seq phys ok =
    let all = allowed setup past (Rename actor seq phys) ok in
    record {
      actor_is = all.0;
      fated = all.1.0;
      oldest = all.1.1.0;
      queue_room = all.1.1.1.0;
      flight_room = all.1.1.1.1.0;
      load_room = all.1.1.1.1.1.0;
      store_room = all.1.1.1.1.1.1.0;
      named = all.1.1.1.1.1.1.1.0;
      unclaimed = all.1.1.1.1.1.1.1.1.0;
    }

pub issue_allowed : (setup : Setup) (past : List Event) (actor seq : ℕ) → refused setup past (Issue actor seq) ≡ None
    → IssueAllowed setup past actor seq
issue_allowed setup past actor seq ok =
    let all = allowed setup past (Issue actor seq) ok in
    record {
      actor_is = all.0;
      idle = all.1.0;
      fated = all.1.1.0;
      suited = all.1.1.1.0;
      ready = all.1.1.1.1.0;
      oldest = all.1.1.1.1.1.0;
    }

pub complete_allowed : (setup : Setup) (past : List Event) (actor seq : ℕ) (outcome : Outcome)
    → refused setup past (Complete actor seq outcome) ≡ None → CompleteAllowed setup past actor seq outcome
complete_allowed setup past actor seq outcome ok =
    let all = allowed setup past (Complete actor seq outcome) ok in
    record { actor_is = all.0; lent = all.1.0; spared = all.1.1.0; outcome_is = all.1.1.1.0 }

pub drop_allowed : (setup : Setup) (past : List Event) (actor seq : ℕ) → refused setup past (Drop actor seq) ≡ None
    → DropAllowed setup past actor seq
drop_allowed setup past actor seq ok =
    let all = allowed setup past (Drop actor seq) ok in
    record { actor_is = all.0; lent = all.1.0; fated = all.1.1.0 }

pub retire_allowed : (setup : Setup) (past : List Event) (actor seq : ℕ) (effect : Effect)
    → refused setup past (Retire actor seq effect) ≡ None → RetireAllowed setup past actor seq effect
retire_allowed setup past actor seq effect ok =
    let all = allowed setup past (Retire actor seq effect) ok in
    record { actor_is = all.0; fated = all.1.0; oldest = all.1.1.0; effect_is = all.1.1.1.0; fresh = all.1.1.1.1.0 }

pub refetch_allowed : (setup : Setup) (past : List Event) (actor seq : ℕ)
    → refused setup past (Refetch actor seq) ≡ None → RefetchAllowed setup past actor seq
refetch_allowed setup past actor seq ok =
    let all = allowed setup past (Refetch actor seq) ok in
    record { actor_is = all.0; fated = all.1.0; oldest = all.1.1.0; stale = all.1.1.1.0 }

-- ---- And back

pub fetch_allows : (setup : Setup) (past : List Event) (actor hart seq pc : ℕ) (word : Option ℕ) (predicted : ℕ)
    → FetchAllowed setup past actor hart seq pc word
    → refused setup past (Fetch actor hart seq pc word predicted) ≡ None
fetch_allows setup past actor hart seq pc word predicted is =
    allows setup past (Fetch actor hart seq pc word predicted)
    (is.actor_is, (is.chosen, (is.next_number, (is.pc_is, (is.word_is, tt)))))

pub decode_allows : (setup : Setup) (past : List Event) (actor seq : ℕ) → DecodeAllowed setup past actor seq
    → refused setup past (Decode actor seq) ≡ None
decode_allows setup past actor seq is =
    allows setup past (Decode actor seq) (is.actor_is, (is.fated, (is.oldest, (is.room, tt))))

pub rename_allows : (setup : Setup) (past : List Event) (actor seq : ℕ) (phys : Option ℕ)
    → RenameAllowed setup past actor seq phys
    → refused setup past (Rename actor seq phys) ≡ None
rename_allows setup past actor seq phys is =
    allows setup past (Rename actor seq phys) (
      is.actor_is,
      (
        is.fated,
        (
          is.oldest,
          (is.queue_room, (is.flight_room, (is.load_room, (is.store_room, (is.named, (is.unclaimed, tt)))))),
        ),
      ),
    )

pub issue_allows : (setup : Setup) (past : List Event) (actor seq : ℕ) → IssueAllowed setup past actor seq
    → refused setup past (Issue actor seq) ≡ None
issue_allows setup past actor seq is =
    allows setup past (Issue actor seq) (is.actor_is, (is.idle, (is.fated, (is.suited, (is.ready, (is.oldest, tt))))))

pub complete_allows : (setup : Setup) (past : List Event) (actor seq : ℕ) (outcome : Outcome)
    → CompleteAllowed setup past actor seq outcome → refused setup past (Complete actor seq outcome) ≡ None
complete_allows setup past actor seq outcome is =
    allows setup past (Complete actor seq outcome) (is.actor_is, (is.lent, (is.spared, (is.outcome_is, tt))))

pub drop_allows : (setup : Setup) (past : List Event) (actor seq : ℕ) → DropAllowed setup past actor seq
    → refused setup past (Drop actor seq) ≡ None
drop_allows setup past actor seq is = allows setup past (Drop actor seq) (is.actor_is, (is.lent, (is.fated, tt)))

pub retire_allows : (setup : Setup) (past : List Event) (actor seq : ℕ) (effect : Effect)
    → RetireAllowed setup past actor seq effect → refused setup past (Retire actor seq effect) ≡ None
retire_allows setup past actor seq effect is =
    allows setup past (Retire actor seq effect)
    (is.actor_is, (is.fated, (is.oldest, (is.effect_is, (is.fresh, tt)))))

pub refetch_allows : (setup : Setup) (past : List Event) (actor seq : ℕ) → RefetchAllowed setup past actor seq
    → refused setup past (Refetch actor seq) ≡ None
refetch_allows setup past actor seq is =
    allows setup past (Refetch actor seq) (is.actor_is, (is.fated, (is.oldest, (is.stale, tt))))
