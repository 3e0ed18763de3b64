-- Why a core can't make a step that is asked of it: for each ask the reasons in their written order,
-- each with the condition over the history under which it holds. The first that holds is the reason.
use Rattle.std.specs.Prelude.{ℕ, Bool, not, ◌==◌, ◌&&◌, nat_lt, if◌then◌else◌, List, [], ◌∷◌, filter}
use Rattle.std.specs.Prelude.{length, Option, Some, None, is_some, is_none}
use Rattle.std.specs.List.{list_all, list_any}
use Rattle.numbers.specs.Sizes.{latch_room, most_accesses, most_in_flight}
use Rattle.rv_instr.specs.{Registers.op_unit, declared.op.Op.Op, declared.op.UnitKind.UnitKind}
use Rattle.events.specs.declared.event.Event.{Event}
use Rattle.smt_model.specs.{declared.config.Status.Status, Asks.Ask, Asks.AskFetch, Asks.AskDecode}
use Rattle.smt_model.specs.declared.config.Status.TheVariants as status
use Rattle.smt_model.specs.{Asks.AskRename, Asks.AskIssue, Asks.AskComplete, Asks.AskRetire}
use Rattle.smt_model.specs.Basics.{holds_of, or_else, or_zero, first, how_many, below}
use Rattle.smt_model.specs.{Setup.Setup, Setup.registers_of, Jobs.is_actor, Jobs.unit_of_actor, Jobs.job}
use Rattle.smt_model.specs.{Memory.status, Memory.is_going, Fetching.may_fetch, Picture.is_free}
use Rattle.smt_model.specs.Kinds.{kind_of, is_loading, is_storing, writes_register, same_unit}
use Rattle.smt_model.specs.Kinds.{first_source, second_source}
use Rattle.smt_model.specs.Fates.{Fate, Issued, Completed, Fetched, fate, is, fetching, op_at}
use Rattle.smt_model.specs.Flights.{in_decode, in_rename, flight, queue}
use Rattle.smt_model.specs.Registers.{source, reads, is_ready}
use Rattle.reasons.specs.{declared.reason.Reason.Reason, declared.reason.Progress.Progress}
use Rattle.reasons.specs.declared.reason.Reason.TheVariants as reason
use Rattle.reasons.specs.declared.reason.Progress.TheVariants as progress

-- ---- Words

-- A reason, where it holds.
abbrev pub named : Bool → Reason → Option Reason
named holds r = if holds then Some r else None

-- The first that holds.
abbrev pub first_named : List (Option Reason) → Option Reason
first_named [] = None
first_named (o ∷ others) = or_else o (first_named others)

-- How far an instruction in flight has come.
abbrev pub progress_of : Fate → Progress
progress_of Issued = progress.Issued
progress_of Completed = progress.Completed
progress_of _ = progress.Renamed

abbrev pub no_actor : Setup → ℕ → Option Reason
no_actor setup k = named (not (is_actor setup k)) (reason.NoActor k)

abbrev pub no_unit : Setup → ℕ → Option Reason
no_unit setup k = named (is_none (unit_of_actor setup k)) (reason.NoUnit k)

-- ---- A fetch

abbrev pub fetch_reasons : Setup → List Event → ℕ → List (Option Reason)
fetch_reasons setup past k =
    no_actor setup k
    ∷ named (how_many (is_going past) (below setup.harts) == 0) reason.NoHartGoes
    ∷ named (how_many (may_fetch past) (below setup.harts) == 0) reason.DecodeLatchesFull
    ∷ []

-- ---- A step of one hart

abbrev pub standing : ℕ → Status → Option Reason
standing h status.Going = None
standing h (status.Ended number) = Some (reason.HartEnded h)
standing h (status.Stopped cause) = Some (reason.HartStopped h)

-- What comes before all other reasons of a step of hart h.
abbrev pub of_hart : Setup → List Event → ℕ → ℕ → List (Option Reason) → List (Option Reason)
of_hart setup past k h others =
    no_actor setup k
    ∷ named (not (nat_lt h setup.harts)) (reason.NoHart h)
    ∷ standing h (status past h)
    ∷ others

abbrev pub decode_reasons : Setup → List Event → ℕ → ℕ → List (Option Reason)
decode_reasons setup past k h =
    of_hart setup past k h (
    named (length (in_decode past h) == 0) (reason.NothingFetched h)
    ∷ named (not (nat_lt (length (in_rename past h)) latch_room)) (reason.RenameLatchFull h)
    ∷ []
    )

-- The hart's oldest decoded instruction passes the test.
abbrev pub oldest_decoded : (Op → Bool) → List Event → ℕ → Bool
oldest_decoded test past h = holds_of (λ s. test (op_at past s)) (first (in_rename past h))

-- As many of this kind are in flight as there may be.
abbrev pub is_crowded : (Op → Bool) → List Event → ℕ → Bool
is_crowded test past h =
    not (nat_lt (how_many (λ s. test (op_at past s)) (flight past h)) most_accesses)

abbrev pub is_load : Op → Bool
is_load op = is_loading (kind_of op)

abbrev pub is_store : Op → Bool
is_store op = is_storing (kind_of op)

abbrev pub no_register : Setup → List Event → Bool
no_register setup past = list_all (λ p. not (is_free setup past p)) (below (registers_of setup))

abbrev pub rename_reasons : Setup → List Event → ℕ → ℕ → List (Option Reason)
rename_reasons setup past k h =
    of_hart setup past k h (
    named (length (in_rename past h) == 0) (reason.NothingDecoded h)
    ∷ named (not (nat_lt (length (queue past)) setup.queue)) reason.QueueFull
    ∷ named (not (nat_lt (length (flight past h)) most_in_flight)) (reason.FlightFull h)
    ∷ named (oldest_decoded is_load past h && is_crowded is_load past h) (reason.LoadsFull h)
    ∷ named (oldest_decoded is_store past h && is_crowded is_store past h) (reason.StoresFull h)
    ∷ named (oldest_decoded writes_register past h && no_register setup past)
    reason.NoFreeRegister
    ∷ []
    )

-- The oldest in flight, where there is one and it hasn't completed.
abbrev pub not_completed : List Event → Option ℕ → Option Reason
not_completed past None = None
not_completed past (Some s) =
    named (not (is (fate past s) Completed)) (reason.NotCompleted s (progress_of (fate past s)))

abbrev pub retire_reasons : Setup → List Event → ℕ → ℕ → List (Option Reason)
retire_reasons setup past k h =
    of_hart setup past k h (
    named (length (flight past h) == 0) (reason.NothingInFlight h)
    ∷ not_completed past (first (flight past h))
    ∷ []
    )

-- ---- A step of a unit

abbrev pub has_job : ℕ → Option ℕ → Option Reason
has_job k None = None
has_job k (Some s) = Some (reason.HasJob k s)

abbrev pub is_of_kind : List Event → UnitKind → ℕ → Bool
is_of_kind past kind s = same_unit kind (op_unit (op_at past s))

-- The first source of an instruction that has no number: its register.
abbrev pub waited_register : Setup → List Event → ℕ → ℕ
waited_register setup past s =
    if is_some (reads setup first_source past s)
    then second_source (op_at past s)
    else first_source (op_at past s)

-- Whose number instruction s reads for its source register r.
abbrev pub writer_for : List Event → Option Fetched → ℕ → ℕ → ℕ
writer_for past None r s = 0
writer_for past (Some f) r s = or_zero (source past f.hart r s)

abbrev pub waits_for : UnitKind → List Event → ℕ → ℕ → ℕ → Reason
waits_for kind past s r w = reason.NotReady kind s r w (progress_of (fate past w))

-- The oldest that waits for a unit of this kind, which isn't ready, and what it waits for.
abbrev pub oldest_waits : Setup → List Event → UnitKind → Option ℕ → Reason
oldest_waits setup past kind None = reason.NothingQueued kind
oldest_waits setup past kind (Some s) =
    let r = waited_register setup past s in
    waits_for kind past s r (writer_for past (fetching past s) r s)

abbrev pub unready : Setup → List Event → Option UnitKind → Option Reason
unready setup past None = None
unready setup past (Some kind) =
    if list_any (λ s. is_of_kind past kind s && is_ready setup past s) (queue past) then None
    else Some (oldest_waits setup past kind (first (filter (is_of_kind past kind) (queue past))))

abbrev pub issue_reasons : Setup → List Event → ℕ → List (Option Reason)
issue_reasons setup past k =
    no_actor setup k
    ∷ no_unit setup k
    ∷ has_job k (job past k)
    ∷ unready setup past (unit_of_actor setup k)
    ∷ []

abbrev pub complete_reasons : Setup → List Event → ℕ → List (Option Reason)
complete_reasons setup past k =
    no_actor setup k
    ∷ no_unit setup k
    ∷ named (is_none (job past k)) (reason.HasNoJob k)
    ∷ []

-- ---- Each ask

abbrev pub reasons : Setup → List Event → Ask → List (Option Reason)
reasons setup past (AskFetch k) = fetch_reasons setup past k
reasons setup past (AskDecode k h) = decode_reasons setup past k h
reasons setup past (AskRename k h) = rename_reasons setup past k h
reasons setup past (AskIssue k) = issue_reasons setup past k
reasons setup past (AskComplete k) = complete_reasons setup past k
reasons setup past (AskRetire k h) = retire_reasons setup past k h
