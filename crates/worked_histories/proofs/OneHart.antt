-- A worked run of one hart, computed: its numbers were found by hand from the rules of the machine, and no code of the
-- simulator takes part. Three instructions go through the pipeline, and the hart ends with 5.
use Rattle.std.specs.Prelude.{◌≡◌, ℕ, ◌+◌, true, false, nat_lt, List, [], ◌∷◌, ◌++◌, map, filter, length, take}
use Rattle.std.specs.Prelude.{replicate, Some, None, refl}
use Rattle.events.specs.{declared.effect.Next.TheVariants.Pc, declared.effect.Next.TheVariants.Ended}
use Rattle.events.specs.{declared.effect.Record.Record, declared.event.Event.Event}
use Rattle.events.specs.declared.event.Event.TheVariants.{Fetch, Decode, Rename, Issue, Complete, Retire}
use Rattle.events.specs.declared.role.Role.TheVariants as role
use Rattle.smt_model.specs.declared.config.Status.TheVariants as status
use Rattle.smt_model.specs.{Basics.below, Flights.icount, Fetching.fetch_pc, Registers.is_unclaimed}
use Rattle.smt_model.specs.{Registers.committed, Registers.claims}
use Rattle.numbers.specs.Sizes.{are_core_sizes}
use Rattle.smt_model.specs.Setup.{Setup, registers_of, is_accepted}
use Rattle.smt_model.specs.Account.{account, open_job_count, records, committed_value}
use Rattle.worked_histories.proofs.Histories.{core, outcome, effect, retired, past_of, refusal, rules_of_events, standing}
use Rattle.worked_histories.proofs.Histories.{standing_after, order_of}

-- addi x10,x0,5; addi x17,x0,93; ecall: on one hart, with one actor, a unit for arithmetic. Physical registers 31 to 94
-- are free at the start.
abbrev pub setup : Setup
setup = record (core 1 (0x00500513 ∷ 0x05d00893 ∷ 0x00000073 ∷ [])) { roles = role.Alu ∷ [] }

-- The 18 events of its run.
abbrev pub worked : List Event
worked =
    Fetch 0 0 0 0x80000000 (Some 0x00500513) 0x80000004
    ∷ Fetch 0 0 1 0x80000004 (Some 0x05d00893) 0x80000008
    ∷ Fetch 0 0 2 0x80000008 (Some 0x00000073) 0x8000000c
    ∷ Decode 0 0 ∷ Decode 0 1 ∷ Decode 0 2
    ∷ Rename 0 0 (Some 31) ∷ Rename 0 1 (Some 32) ∷ Rename 0 2 None
    ∷ Issue 0 0 ∷ Complete 0 0 (outcome (Some 5) (Pc 0x80000004))
    ∷ Issue 0 1 ∷ Complete 0 1 (outcome (Some 0x5d) (Pc 0x80000008))
    ∷ Issue 0 2 ∷ Complete 0 2 (outcome None (Ended 5))
    ∷ Retire 0 0 (effect (Some 5) (Pc 0x80000004))
    ∷ Retire 0 1 (effect (Some 0x5d) (Pc 0x80000008))
    ∷ Retire 0 2 (effect None (Ended 5)) ∷ []

-- The three retired instructions.
abbrev pub worked_records : List Record
worked_records =
    retired 0 0x80000000 0x00500513 (effect (Some 5) (Pc 0x80000004))
    ∷ retired 0 0x80000004 0x05d00893 (effect (Some 0x5d) (Pc 0x80000008))
    ∷ retired 0 0x80000008 0x00000073 (effect None (Ended 5)) ∷ []

-- The addresses of its words.
abbrev code : List ℕ
code = 0x80000000 ∷ 0x80000004 ∷ 0x80000008 ∷ []

-- The history so far, after n events.
abbrev so_far : ℕ → List Event
so_far n = past_of (take n worked)

-- Each of the 18 events is allowed as it comes.
all_allowed : refusal setup worked ≡ None
unfolding refusal
all_allowed = refl

-- They come to three records, hart 0 ended with 5, no output and no open job.
their_account :
    account setup (past_of worked)
    ≡ record { records = worked_records; output = []; statuses = status.Ended 5 ∷ []; lent = 0; events = 18 }
their_account = refl

-- The plain machine, run for three instructions of hart 0, has the same records, and ends in the same registers,
-- reservation, status, memory and output.
refines_the_plain_machine :
    standing_after setup code (0 ∷ 0 ∷ 0 ∷ []) ≡ Some (standing setup code (past_of worked))
unfolding rules_of_events
refines_the_plain_machine = refl

-- It is not defined for a fourth instruction, as the hart has ended.
no_fourth_instruction : standing_after setup code (0 ∷ 0 ∷ 0 ∷ 0 ∷ []) ≡ None
unfolding rules_of_events
no_fourth_instruction = refl

-- That order is the one in which they retired.
their_order : order_of worked ≡ 0 ∷ 0 ∷ 0 ∷ []
their_order = refl

-- At the end x10 is 5, x11 the number of harts, x17 is 93, and all others are 0.
registers_at_the_end :
    map (committed_value setup (past_of worked) 0) (below 32)
    ≡ replicate 10 (Some 0) ++ Some 5 ∷ Some 1 ∷ replicate 5 (Some 0) ++ Some 93 ∷ replicate 14 (Some 0)
unfolding rules_of_events
registers_at_the_end = refl

-- At the start x10 is the hart's number and x11 the number of harts: here of the last of three.
registers_at_the_start :
    map (committed_value (core 3 []) [] 2) (below 32)
    ≡ replicate 10 (Some 0) ++ Some 2 ∷ Some 3 ∷ replicate 20 (Some 0)
registers_at_the_start = refl

-- The plain machine starts from the same.
starts_the_same : standing_after (core 3 []) code [] ≡ Some (standing (core 3 []) code [])
unfolding rules_of_events
starts_the_same = refl

-- Hart 1's x5 starts in physical register 35, the fifth of its own.
first_physical_register : committed [] 1 5 ≡ 35
first_physical_register = refl

-- Before a rename registers 31 to 94 are free.
free_at_the_start : filter (is_unclaimed setup []) (below (registers_of setup)) ≡ map (λ k. k + 31) (below 64)
unfolding rules_of_events
free_at_the_start = refl

-- At the end x10 and x17 are 31 and 32, and those that they were before, 9 and 16, are free.
free_at_the_end :
    filter (is_unclaimed setup (past_of worked)) (below (registers_of setup)) ≡ 9 ∷ 16 ∷ map (λ k. k + 33) (below 62)
unfolding rules_of_events
free_at_the_end = refl

-- x10 and x17 are committed to 31 and 32.
committed_at_the_end : committed (past_of worked) 0 10 ∷ committed (past_of worked) 0 17 ∷ [] ≡ 31 ∷ 32 ∷ []
unfolding rules_of_events
committed_at_the_end = refl

-- After none of the events a physical register is claimed twice.
claimed_once :
    map (λ n. length (filter (λ p. nat_lt 1 (claims setup (so_far n) p)) (below (registers_of setup)))) (below 19)
    ≡ replicate 19 0
unfolding rules_of_events
claimed_once = refl

-- The hart's counter after each number of events: it rises with a fetch and falls with an issue.
counters :
    map (λ n. icount (so_far n) 0) (below 19)
    ≡ 0 ∷ 1 ∷ 2 ∷ replicate 7 3 ++ 2 ∷ 2 ∷ 1 ∷ 1 ∷ replicate 5 0
unfolding rules_of_events
counters = refl

-- One job is open after an issue, none else: events 10, 12 and 14 issue.
open_jobs :
    map (λ n. open_job_count setup (so_far n)) (below 19)
    ≡ replicate 10 0 ++ 1 ∷ 0 ∷ 1 ∷ 0 ∷ 1 ∷ replicate 4 0
open_jobs = refl

-- The last three events retire.
retired_so_far : map (λ n. length (records (so_far n))) (below 19) ≡ replicate 16 0 ++ 1 ∷ 2 ∷ 3 ∷ []
retired_so_far = refl

-- The hart fetches on behind the word that ends it, and its fetch pc stays there as it ends.
last_fetch_pc : fetch_pc setup (past_of worked) 0 ≡ 0x8000000c
unfolding rules_of_events
last_fetch_pc = refl

-- ---- The sizes of a core

-- The least and the greatest harts, extra registers, entries in the queue and actors are taken.
smallest_and_greatest : are_core_sizes 1 1 4 1 ∷ are_core_sizes 16 528 64 32 ∷ [] ≡ true ∷ true ∷ []
smallest_and_greatest = refl

-- One less of each is refused.
too_small :
    are_core_sizes 0 1 4 1 ∷ are_core_sizes 1 0 4 1 ∷ are_core_sizes 1 1 3 1 ∷ are_core_sizes 1 1 4 0 ∷ []
    ≡ replicate 4 false
too_small = refl

-- One more of each is refused.
too_great :
    are_core_sizes 17 528 64 32 ∷ are_core_sizes 16 529 64 32 ∷ are_core_sizes 16 528 65 32
    ∷ are_core_sizes 16 528 64 33 ∷ []
    ≡ replicate 4 false
too_great = refl

-- A history of 16,777,216 events may be asked for, and none longer.
limits : map (is_accepted setup) (0 ∷ 16777216 ∷ 16777217 ∷ []) ≡ true ∷ true ∷ false ∷ []
limits = refl
