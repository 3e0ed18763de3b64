-- Renaming: which physical register stands for which register, who claims it, and what it holds.
use Rattle.std.specs.Prelude.{ℕ, suc, ◌+◌, ◌/◌, ◌%◌, Bool, ◌==◌, ◌&&◌, nat_lt}
use Rattle.std.specs.Prelude.{if◌then◌else◌, List, [], ◌∷◌, ◌++◌, filter, Option, Some, None}
use Rattle.std.specs.Prelude.{is_some}
use Rattle.smt_model.specs.Words.{Op, Event, Rename, Issue, Complete, Retire}
use Rattle.smt_model.specs.Basics.{holds_of, or_zero, same_number, first, below, how_many, total}
use Rattle.numbers.specs.{Sizes.renamed_registers, Layout.first_extra}
pub use Rattle.numbers.specs.Layout.{first_register}
use Rattle.rv_instr.specs.declared.op.Op.{Op}
use Rattle.events.specs.declared.event.Event.{Event}
use Rattle.events.specs.declared.event.Event.TheVariants.{Rename, Issue, Complete}
use Rattle.events.specs.declared.event.Event.TheVariants.{Retire}
use Rattle.smt_model.specs.{Setup.Setup, Setup.first_number, Kinds.destination, Kinds.first_source}
use Rattle.smt_model.specs.{Kinds.second_source, Folds.latest, Flights.all_numbers}
use Rattle.smt_model.specs.Fates.{fate, is, is_in_flight, stands, Retired, Fetched, fetching}
use Rattle.smt_model.specs.Fates.{op_of_fetched}

-- ---- What was named

-- The register that the last rename of an instruction named.
abbrev pub named_by : Event → ℕ → Option (Option ℕ)
named_by (Rename actor seq phys) s = if seq == s then Some phys else None
named_by _ s = None

abbrev pub option_inner : Option (Option ℕ) → Option ℕ
option_inner None = None
option_inner (Some n) = n

abbrev pub naming : List Event → ℕ → Option (Option ℕ)
naming = latest named_by

abbrev pub phys : List Event → ℕ → Option ℕ
phys past s = option_inner (naming past s)

-- The instructions that were given a register, the newest first.
abbrev pub given_register : Event → List ℕ
given_register (Rename actor seq phys) = if is_some phys then seq ∷ [] else []
given_register _ = []

abbrev pub namings : List Event → List ℕ
namings [] = []
namings (e ∷ past) = given_register e ++ namings past

-- The newest of them that passes a test.
abbrev pub newest : (ℕ → Bool) → List Event → Option ℕ
newest test past = first (filter test (namings past))

-- ---- Who writes a register. [register renaming: Tullsen and others, ISCA 1996]

-- The instruction is hart h's and its destination is r.
abbrev pub writes : List Event → ℕ → ℕ → ℕ → Bool
writes past h r s =
    holds_of (λ f. (f.hart == h) && (destination (op_of_fetched (Some f)) == r)) (fetching past s)

-- The youngest writer of hart h's r that is in flight or has retired without ending or stopping.
abbrev pub writer : List Event → ℕ → ℕ → Option ℕ
writer past h r = newest (λ x. writes past h r x && stands (fate past x)) past

-- The youngest of those that have retired.
abbrev pub committer : List Event → ℕ → ℕ → Option ℕ
committer past h r = newest (λ x. writes past h r x && is (fate past x) Retired) past

-- The youngest writer among those older than s: the one whose number s reads.
abbrev pub source : List Event → ℕ → ℕ → ℕ → Option ℕ
source past h r s = newest (λ x. nat_lt x s && (writes past h r x && stands (fate past x))) past

-- The instruction that was given physical register p last.
abbrev pub holder : List Event → ℕ → Option ℕ
holder past p = newest (λ x. same_number (phys past x) (Some p)) past

-- ---- Which physical register stands for a register

abbrev pub register_by : List Event → ℕ → Option ℕ → ℕ
register_by past otherwise None = otherwise
register_by past otherwise (Some w) = or_zero (phys past w)

-- The map of hart h, its committed map, and the register that instruction s finds for its source r.
abbrev pub mapped : List Event → ℕ → ℕ → ℕ
mapped past h r = register_by past (first_register h r) (writer past h r)

abbrev pub committed : List Event → ℕ → ℕ → ℕ
committed past h r = register_by past (first_register h r) (committer past h r)

abbrev pub source_register : List Event → ℕ → ℕ → ℕ → ℕ
source_register past h r s = register_by past (first_register h r) (source past h r s)

-- ---- Claims

-- How many instructions in flight have p as their destination, over all harts.
abbrev pub flight_claims : List Event → ℕ → ℕ
flight_claims past p =
    how_many (λ s. is_in_flight (fate past s) && same_number (phys past s) (Some p))
    (all_numbers past)

-- How many registers, 1 to 31 of each hart, have p as their committed one.
abbrev pub committed_claims : Setup → List Event → ℕ → ℕ
committed_claims setup past p =
    total (λ h. how_many (λ r. committed past h (suc r) == p) (below 31)) (below setup.harts)

abbrev pub claims : Setup → List Event → ℕ → ℕ
claims setup past p = flight_claims past p + committed_claims setup past p

unfoldable pub is_unclaimed : Setup → List Event → ℕ → Bool
is_unclaimed setup past p = claims setup past p == 0

-- ---- What a physical register holds

-- The number that an event gives to the register of its own instruction.
abbrev pub resulting : Event → ℕ → Option (Option ℕ)
resulting (Complete actor seq outcome) s = if seq == s then Some outcome.value else None
resulting (Retire actor seq effect) s = if seq == s then Some effect.value else None
resulting _ s = None

abbrev pub result_said : List Event → ℕ → Option (Option ℕ)
result_said = latest resulting

-- The value in the last completion or retirement of an instruction.
abbrev pub result_of : List Event → ℕ → Option ℕ
result_of past s = option_inner (result_said past s)

-- The number that physical register p holds at the start, where it is one of a hart's.
abbrev pub first_value : Setup → ℕ → Option ℕ
first_value setup p =
    if nat_lt p (first_extra setup.harts)
    then Some (first_number setup.harts (p / renamed_registers) (p % renamed_registers + 1))
    else None

abbrev pub value_by : List Event → Option ℕ → Option ℕ → Option ℕ
value_by past otherwise None = otherwise
value_by past otherwise (Some w) = result_of past w

-- What p holds: what its last holder has made, or the number of the start.
abbrev pub value : Setup → List Event → ℕ → Option ℕ
value setup past p = value_by past (first_value setup p) (holder past p)

-- ---- Operands

-- What instruction s reads for its source register r: 0 for x0 or no source, else what the register
-- holds, if anything.
abbrev pub reading : Setup → List Event → ℕ → ℕ → ℕ → Option ℕ
reading setup past h r s = if r == 0 then Some 0 else value setup past (source_register past h r s)

-- What it reads for the source that `which` picks from an instruction, such as the first.
abbrev pub reading_by : Setup → (Op → ℕ) → List Event → ℕ → Option Fetched → Option ℕ
reading_by setup which past s None = None
reading_by setup which past s (Some f) =
    reading setup past f.hart (which (op_of_fetched (Some f))) s

abbrev pub reads : Setup → (Op → ℕ) → List Event → ℕ → Option ℕ
reads setup which past s = reading_by setup which past s (fetching past s)

-- Both sources have a number.
abbrev pub is_ready : Setup → List Event → ℕ → Bool
is_ready setup past s =
    is_some (reads setup first_source past s) && is_some (reads setup second_source past s)

-- An operand is what the source held just before the instruction issued.
abbrev pub operand : Setup → (Op → ℕ) → List Event → ℕ → Option ℕ
operand setup which [] s = None
operand setup which (Issue actor seq ∷ past) s =
    if seq == s then reads setup which past s else operand setup which past s
operand setup which (_ ∷ past) s = operand setup which past s
