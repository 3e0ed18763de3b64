-- Which event may come next. Each kind of event has a list of numbered tests; the first that fails
-- is the refusal, and an event for which none fails is allowed. A history is legal where each event
-- was allowed as it came.
use Rattle.std.specs.Prelude.{◌≡◌, ℕ, Bool, not, ◌==◌, ◌&&◌, ◌||◌, nat_lt, if◌then◌else◌, List, []}
use Rattle.std.specs.Prelude.{◌∷◌, length, Option, Some, None, is_some, is_none}
use Rattle.std.specs.List.{list_all}
use Rattle.numbers.specs.Sizes.{latch_room, most_accesses, most_in_flight}
use Rattle.rv_instr.specs.Registers.{op_unit}
use Rattle.smt_model.specs.Words.{word_now, Outcome, Effect, Event, Fetch, Decode, Rename, Issue}
use Rattle.smt_model.specs.Words.{Complete, Drop, Retire, Refetch}
use Rattle.smt_model.specs.Basics.{holds_of, same_number, same_truth, or_zero, first, how_many}
use Rattle.smt_model.specs.{Setup.Setup, Setup.registers_of, Exec.Computed, Faults.computed_on}
use Rattle.smt_model.specs.{Bytes.read, Reservations.holds_word, Outcomes.outcome_of}
use Rattle.smt_model.specs.{Effects.effect_of, Registers.is_unclaimed, Registers.is_ready}
use Rattle.smt_model.specs.{Registers.operand, Memory.byte_at, Memory.reserved, Looks.first_look}
use Rattle.smt_model.specs.{Fetching.choice, Fetching.fetch_pc, Jobs.is_actor, Jobs.unit_of_actor}
use Rattle.smt_model.specs.{Jobs.job, Comparisons.same_outcome, Comparisons.same_effect}
use Rattle.smt_model.specs.Kinds.{Kind, kind_of, is_loading, is_storing, writes_register}
use Rattle.smt_model.specs.Kinds.{first_source, second_source, same_unit}
use Rattle.smt_model.specs.Fates.{Fetched, fetching, fetches, op_at, op_of_fetched, fate, is}
use Rattle.smt_model.specs.Fates.{InDecode, InRename, Renamed, Completed, Squashed}
use Rattle.smt_model.specs.Flights.{in_decode, in_rename, flight, queue}

-- ---- The fields that a completion and a retirement must have now

-- What the instruction computes of its operands, its faults included.
abbrev pub computed_at : Setup → List Event → ℕ → Fetched → Computed
computed_at setup past s f =
    let op = op_of_fetched (Some f) in
    computed_on setup op f.pc (or_zero (operand setup first_source past s))
    (or_zero (operand setup second_source past s))

abbrev pub outcome_now : Setup → List Event → ℕ → Fetched → Outcome
outcome_now setup past s f =
    let op = op_of_fetched (Some f) in
    let c = computed_at setup past s f in
    outcome_of op c (Some (first_look setup past f.hart s op c.addr))

abbrev pub effect_now : Setup → List Event → ℕ → Fetched → Effect
effect_now setup past s f =
    let op = op_of_fetched (Some f) in
    let c = computed_at setup past s f in
    effect_of op c (read op (byte_at setup past) c.addr) (holds_word (reserved past f.hart) c.addr)

-- ---- The rules

-- A test of the instruction as it was fetched.
abbrev pub of_fetched : List Event → ℕ → (Fetched → Bool) → Bool
of_fetched past s test = holds_of test (fetching past s)

abbrev pub is_first : ℕ → List ℕ → Bool
is_first s xs = same_number (first xs) (Some s)

-- The kind of unit that executes s is this actor's.
abbrev pub is_for : Setup → List Event → ℕ → ℕ → Bool
is_for setup past actor s =
    holds_of (λ u. same_unit u (op_unit (op_at past s))) (unit_of_actor setup actor)

-- No ready instruction of the actor's kind has a lower number.
abbrev pub is_oldest_ready : Setup → List Event → ℕ → ℕ → Bool
is_oldest_ready setup past actor s =
    list_all (λ t. not (nat_lt t s && (is_for setup past actor t && is_ready setup past t)))
    (queue past)

-- If the instruction is of this kind, its hart has room for one more of it in flight.
abbrev pub has_room : (Kind → Bool) → List Event → ℕ → Bool
has_room is_one past s =
    not (is_one (kind_of (op_at past s)))
    || of_fetched past s
    (λ f. nat_lt (how_many (λ t. is_one (kind_of (op_at past t))) (flight past f.hart))
    most_accesses)

-- The word that memory has at its pc now is the one that was fetched; none is the same as none.
abbrev pub is_fresh : Setup → List Event → Fetched → Bool
is_fresh setup past f = same_number f.word (word_now setup.image (byte_at setup past) f.pc)

abbrev pub rules : Setup → List Event → Event → List (ℕ × Bool)
rules setup past (Fetch actor hart seq pc word predicted) =
    (1, is_actor setup actor)
    ∷ (2, same_number (choice setup past) (Some hart))
    ∷ (3, seq == fetches past)
    ∷ (4, pc == fetch_pc setup past hart)
    ∷ (5, same_number word (word_now setup.image (byte_at setup past) pc)) ∷ []
rules setup past (Decode actor seq) =
    (1, is_actor setup actor)
    ∷ (2, is (fate past seq) InDecode)
    ∷ (3, of_fetched past seq (λ f. is_first seq (in_decode past f.hart)))
    ∷ (4, of_fetched past seq (λ f. nat_lt (length (in_rename past f.hart)) latch_room)) ∷ []
rules setup past (Rename actor seq phys) =
    (1, is_actor setup actor)
    ∷ (2, is (fate past seq) InRename)
    ∷ (3, of_fetched past seq (λ f. is_first seq (in_rename past f.hart)))
    ∷ (4, nat_lt (length (queue past)) setup.queue)
    ∷ (5, of_fetched past seq (λ f. nat_lt (length (flight past f.hart)) most_in_flight))
    ∷ (6, has_room is_loading past seq)
    ∷ (7, has_room is_storing past seq)
    ∷ (8, same_truth (is_some phys) (writes_register (op_at past seq)))
    ∷ (
      9,
      not (is_some phys)
          || holds_of (λ p. nat_lt p (registers_of setup) && is_unclaimed setup past p) phys,
    ) ∷ []
rules setup past (Issue actor seq) =
    (1, is_actor setup actor)
    ∷ (2, is_some (unit_of_actor setup actor) && is_none (job past actor))
    ∷ (3, is (fate past seq) Renamed)
    ∷ (4, is_for setup past actor seq)
    ∷ (5, is_ready setup past seq)
    ∷ (6, is_oldest_ready setup past actor seq) ∷ []
rules setup past (Complete actor seq outcome) =
    (1, is_actor setup actor)
    ∷ (2, same_number (job past actor) (Some seq))
    ∷ (3, not (is (fate past seq) Squashed))
    ∷ (4, of_fetched past seq (λ f. same_outcome outcome (outcome_now setup past seq f))) ∷ []
rules setup past (Drop actor seq) =
    (1, is_actor setup actor)
    ∷ (2, same_number (job past actor) (Some seq))
    ∷ (3, is (fate past seq) Squashed) ∷ []
rules setup past (Retire actor seq effect) =
    (1, is_actor setup actor)
    ∷ (2, is (fate past seq) Completed)
    ∷ (3, of_fetched past seq (λ f. is_first seq (flight past f.hart)))
    ∷ (4, of_fetched past seq (λ f. same_effect effect (effect_now setup past seq f)))
    ∷ (5, of_fetched past seq (is_fresh setup past)) ∷ []
rules setup past (Refetch actor seq) =
    (1, is_actor setup actor)
    ∷ (2, is (fate past seq) Completed)
    ∷ (3, of_fetched past seq (λ f. is_first seq (flight past f.hart)))
    ∷ (4, of_fetched past seq (λ f. not (is_fresh setup past f))) ∷ []

abbrev pub first_failing : List (ℕ × Bool) → Option ℕ
first_failing [] = None
first_failing (rule ∷ rest) = if rule.1 then first_failing rest else Some rule.0

-- The number of the first rule that the event breaks, none where it is allowed.
unfoldable pub refused : Setup → List Event → Event → Option ℕ
refused setup past e = first_failing (rules setup past e)

abbrev pub is_allowed : Setup → List Event → Event → Type 0
is_allowed setup past e = refused setup past e ≡ None

abbrev pub is_legal : Setup → List Event → Type 0
is_legal setup [] = Unit {0}
is_legal setup (e ∷ past) = is_allowed setup past e × is_legal setup past
