-- What a load sees of another hart, computed on worked histories whose numbers were found by hand: a load that looked
-- before the other's store is replayed as it retires, and what came behind it is squashed.
use Rattle.std.specs.Prelude.{◌≡◌, ℕ, true, false, ◌++◌, List, [], ◌∷◌, map, reverse, take, Some, None, refl}
use Rattle.events.specs.{declared.effect.Next.TheVariants.Pc, declared.effect.Record.Record, declared.event.Event.Event}
use Rattle.events.specs.declared.event.Event.TheVariants.{Fetch, Decode, Rename, Issue, Complete, Drop, Retire}
use Rattle.smt_model.specs.{Basics.below, Setup.Setup, Flights.live, Registers.is_unclaimed, Registers.value}
use Rattle.smt_model.specs.{Fetching.fetch_pc, Jobs.job, Account.records, Account.committed_value}
use Rattle.smt_model.specs.Touched.{is_touched, loads, looks}
use Rattle.smt_model.specs.Fates.{fate, InDecode, Issued, Completed, Retired, Squashed}
use Rattle.worked_histories.proofs.Histories.{core, outcome, effect, access, write, retired, past_of, turned_at, refusal}
use Rattle.worked_histories.proofs.Histories.{refusal_at, rules_of_events, standing, standing_after, order_of}

-- ---- A load that another hart's store overtakes

-- lui x6,0x80001; bne x10,x0,16; lw x5,0(x6); addi x7,x5,1; lw x12,0(x6); sw x11,0(x6): on two harts. Hart 0 loads,
-- hart 1 jumps to the store and stores 2, the number of harts.
abbrev two : Setup
two =
    core 2 (0x80001337 ∷ 0x00051863 ∷ 0x00032283 ∷ 0x00128393 ∷ 0x00032603 ∷ 0x00b32023 ∷ [])

-- Hart 0 has numbers 0, 2, 4, 6 and 8, hart 1 has 1, 3, 5 and 7. Number 4 loads 0 and number 6 adds 1 to it. Then
-- number 5, the store, completes and retires, while number 8, the second load, is out. The store's word and number are
-- given.
abbrev overtaken : ℕ → ℕ → List Event
overtaken word n =
    Fetch 0 0 0 0x80000000 (Some 0x80001337) 0x80000004 ∷ Fetch 0 1 1 0x80000000 (Some 0x80001337) 0x80000004
    ∷ Fetch 0 0 2 0x80000004 (Some 0x00051863) 0x80000008 ∷ Fetch 0 1 3 0x80000004 (Some 0x00051863) 0x80000014
    ∷ Fetch 0 0 4 0x80000008 (Some 0x00032283) 0x8000000c ∷ Fetch 0 1 5 0x80000014 (Some word) 0x80000018
    ∷ Fetch 0 0 6 0x8000000c (Some 0x00128393) 0x80000010 ∷ Fetch 0 1 7 0x80000018 None 0x8000001c
    ∷ Fetch 0 0 8 0x80000010 (Some 0x00032603) 0x80000014
    ∷ Decode 1 0 ∷ Decode 1 1 ∷ Decode 1 2 ∷ Decode 1 3 ∷ Decode 1 4 ∷ Decode 1 5 ∷ Decode 1 6 ∷ Decode 1 8
    ∷ Rename 1 0 (Some 62) ∷ Rename 1 1 (Some 63) ∷ Rename 1 2 None ∷ Rename 1 3 None
    ∷ Rename 1 4 (Some 64) ∷ Rename 1 5 None ∷ Rename 1 6 (Some 65) ∷ Rename 1 8 (Some 66)
    ∷ Issue 3 0 ∷ Complete 3 0 (outcome (Some 0x80001000) (Pc 0x80000004))
    ∷ Issue 3 1 ∷ Complete 3 1 (outcome (Some 0x80001000) (Pc 0x80000004))
    ∷ Issue 3 2 ∷ Complete 3 2 (outcome None (Pc 0x80000008))
    ∷ Issue 3 3 ∷ Complete 3 3 (outcome None (Pc 0x80000014))
    ∷ Issue 5 4 ∷ Complete 5 4 (access (Some 0) 0x80001000 None (Pc 0x8000000c))
    ∷ Issue 3 6 ∷ Complete 3 6 (outcome (Some 1) (Pc 0x80000010))
    ∷ Issue 5 5 ∷ Complete 5 5 (access None 0x80001000 (Some n) (Pc 0x80000018))
    ∷ Issue 5 8
    ∷ Retire 2 0 (effect (Some 0x80001000) (Pc 0x80000004)) ∷ Retire 2 2 (effect None (Pc 0x80000008))
    ∷ Retire 2 1 (effect (Some 0x80001000) (Pc 0x80000004)) ∷ Retire 2 3 (effect None (Pc 0x80000014))
    ∷ Retire 2 5 (write None 0x80001000 4 n (Pc 0x80000018)) ∷ []

-- The store is of 2. As number 4 retires it has 2, and numbers 6 and 8 are squashed: number 8 is dropped, and the
-- addition comes again as number 9.
abbrev squashes_now : List Event
squashes_now =
    overtaken 0x00b32023 2 ++ Retire 2 4 (effect (Some 2) (Pc 0x8000000c)) ∷ Drop 5 8
    ∷ Fetch 0 0 9 0x8000000c (Some 0x00128393) 0x80000010 ∷ Decode 1 9 ∷ Rename 1 9 (Some 65)
    ∷ Issue 3 9 ∷ Complete 3 9 (outcome (Some 3) (Pc 0x80000010)) ∷ Retire 2 9 (effect (Some 3) (Pc 0x80000010)) ∷ []

-- Each of its 53 events is allowed as it comes.
replayed_is_allowed : refusal two squashes_now ≡ None
unfolding refusal
replayed_is_allowed = refl

-- The first look may give nothing but what is in memory then.
no_other_first_look :
    refusal two (turned_at 34 squashes_now (Complete 5 4 (access (Some 2) 0x80001000 None (Pc 0x8000000c))))
    ≡ refusal_at 34 4
unfolding refusal
no_other_first_look = refl

-- A later look doesn't see the other hart's store as it has completed, nor miss it as it has retired.
no_look_at_a_completed_store :
    refusal two (turned_at 40 squashes_now (Complete 5 8 (access (Some 2) 0x80001000 None (Pc 0x80000014))))
    ≡ refusal_at 40 4
unfolding refusal
no_look_at_a_completed_store = refl

no_look_past_a_retired_store :
    refusal two (turned_at 45 squashes_now (Complete 5 8 (access (Some 0) 0x80001000 None (Pc 0x80000014))))
    ≡ refusal_at 45 4
unfolding refusal
no_look_past_a_retired_store = refl

-- Behind the store's retirement the load may not retire with what it saw first.
first_look_does_not_retire :
    refusal two (turned_at 45 squashes_now (Retire 2 4 (effect (Some 0) (Pc 0x8000000c)))) ≡ refusal_at 45 4
unfolding refusal
first_look_does_not_retire = refl

-- Before it, while the store has only completed, it may not retire with anything else.
completed_store_of_another_is_not_seen :
    refusal two (turned_at 44 squashes_now (Retire 2 4 (effect (Some 2) (Pc 0x8000000c)))) ≡ refusal_at 44 4
unfolding refusal
completed_store_of_another_is_not_seen = refl

-- And then it retires with what it saw first.
first_look_retires_before_the_store :
    refusal two (turned_at 44 squashes_now (Retire 2 4 (effect (Some 0) (Pc 0x8000000c)))) ≡ None
unfolding refusal
first_look_retires_before_the_store = refl

-- That squashes nothing.
unchanged_load_squashes_nothing :
    map (fate (past_of (turned_at 44 squashes_now (Retire 2 4 (effect (Some 0) (Pc 0x8000000c))))))
    (4 ∷ 5 ∷ 6 ∷ 7 ∷ 8 ∷ [])
    ≡ Retired ∷ Completed ∷ Completed ∷ InDecode ∷ Issued ∷ []
unfolding rules_of_events
unchanged_load_squashes_nothing = refl

-- Before the load retires the younger ones of its hart have completed and issued.
fates_before_the_replay :
    map (fate (past_of (take 45 squashes_now))) (2 ∷ 4 ∷ 5 ∷ 6 ∷ 7 ∷ 8 ∷ [])
    ≡ Retired ∷ Completed ∷ Retired ∷ Completed ∷ InDecode ∷ Issued ∷ []
unfolding rules_of_events
fates_before_the_replay = refl

-- After it they are squashed; the older one, the load itself and hart 1's are not.
fates_after_the_replay :
    map (fate (past_of (take 46 squashes_now))) (2 ∷ 4 ∷ 5 ∷ 6 ∷ 7 ∷ 8 ∷ [])
    ≡ Retired ∷ Retired ∷ Retired ∷ Squashed ∷ InDecode ∷ Squashed ∷ []
unfolding rules_of_events
fates_after_the_replay = refl

-- Hart 0 has none left, hart 1 has number 7.
live_after_the_replay : map (live (past_of (take 46 squashes_now))) (below 2) ≡ [] ∷ (7 ∷ []) ∷ []
unfolding rules_of_events
live_after_the_replay = refl

-- The squashed addition does not retire.
no_retirement_of_the_squashed :
    refusal two (turned_at 46 squashes_now (Retire 2 6 (effect (Some 1) (Pc 0x80000010)))) ≡ refusal_at 46 2
unfolding refusal
no_retirement_of_the_squashed = refl

-- Nor does it with the number that it would have now.
no_retirement_with_the_new_number :
    refusal two (turned_at 46 squashes_now (Retire 2 6 (effect (Some 3) (Pc 0x80000010)))) ≡ refusal_at 46 2
unfolding refusal
no_retirement_with_the_new_number = refl

-- The squashed load, whose job is out, does not complete.
late_load_is_not_completed :
    refusal two (turned_at 46 squashes_now (Complete 5 8 (access (Some 2) 0x80001000 None (Pc 0x80000014))))
    ≡ refusal_at 46 3
unfolding refusal
late_load_is_not_completed = refl

-- It would have been allowed to just before.
late_load_before_the_replay :
    refusal two (turned_at 45 squashes_now (Complete 5 8 (access (Some 2) 0x80001000 None (Pc 0x80000014)))) ≡ None
unfolding refusal
late_load_before_the_replay = refl

-- Its job is not dropped before the correction.
no_drop_before_the_replay : refusal two (turned_at 45 squashes_now (Drop 5 8)) ≡ refusal_at 45 3
unfolding refusal
no_drop_before_the_replay = refl

-- The unit has the job until the drop.
job_of_the_late_load : map (λ n. job (past_of (take n squashes_now)) 5) (45 ∷ 46 ∷ 47 ∷ [])
    ≡ Some 8 ∷ Some 8 ∷ None ∷ []
job_of_the_late_load = refl

-- Hart 0 is fetched behind the load again, and hart 1 where it was.
pcs_around_the_replay :
    map (fetch_pc two (past_of (take 45 squashes_now))) (below 2)
    ∷ map (fetch_pc two (past_of (take 46 squashes_now))) (below 2) ∷ []
    ≡ (0x80000014 ∷ 0x8000001c ∷ []) ∷ (0x8000000c ∷ 0x8000001c ∷ []) ∷ []
unfolding rules_of_events
pcs_around_the_replay = refl

-- It is not fetched on behind the second load.
no_fetch_past_the_replay :
    refusal two (turned_at 47 squashes_now (Fetch 0 0 9 0x80000014 (Some 0x00b32023) 0x80000018)) ≡ refusal_at 47 4
unfolding refusal
no_fetch_past_the_replay = refl

-- The load's register, 64, holds what it saw first, and what it retired with from then on.
register_of_the_load :
    map (λ n. value two (past_of (take n squashes_now)) 64) (34 ∷ 35 ∷ 45 ∷ 46 ∷ 53 ∷ [])
    ≡ None ∷ Some 0 ∷ Some 0 ∷ Some 2 ∷ Some 2 ∷ []
unfolding rules_of_events
register_of_the_load = refl

-- The registers of the two that are squashed, 65 and 66, are free then; the load's is not.
registers_given_back :
    map (is_unclaimed two (past_of (take 45 squashes_now))) (64 ∷ 65 ∷ 66 ∷ [])
    ∷ map (is_unclaimed two (past_of (take 46 squashes_now))) (64 ∷ 65 ∷ 66 ∷ []) ∷ []
    ≡ (false ∷ false ∷ false ∷ []) ∷ (false ∷ true ∷ true ∷ []) ∷ []
unfolding rules_of_events
registers_given_back = refl

-- At the end hart 0's x5, x7 and x12 are 2, 3 and 0.
registers_at_the_end : map (committed_value two (past_of squashes_now) 0) (5 ∷ 7 ∷ 12 ∷ [])
    ≡ Some 2 ∷ Some 3 ∷ Some 0 ∷ []
unfolding rules_of_events
registers_at_the_end = refl

-- The records: the store comes before the load, which has its second number, and the addition comes once.
abbrev replayed_records : List Record
replayed_records =
    retired 0 0x80000000 0x80001337 (effect (Some 0x80001000) (Pc 0x80000004))
    ∷ retired 0 0x80000004 0x00051863 (effect None (Pc 0x80000008))
    ∷ retired 1 0x80000000 0x80001337 (effect (Some 0x80001000) (Pc 0x80000004))
    ∷ retired 1 0x80000004 0x00051863 (effect None (Pc 0x80000014))
    ∷ retired 1 0x80000014 0x00b32023 (write None 0x80001000 4 2 (Pc 0x80000018))
    ∷ retired 0 0x80000008 0x00032283 (effect (Some 2) (Pc 0x8000000c))
    ∷ retired 0 0x8000000c 0x00128393 (effect (Some 3) (Pc 0x80000010)) ∷ []

account_of_the_replay : reverse (records (past_of squashes_now)) ≡ replayed_records
account_of_the_replay = refl

-- The plain machine, run in that order, ends where the history does.
replayed_refines :
    standing_after two (0x80001000 ∷ []) (order_of squashes_now)
    ≡ Some (standing two (0x80001000 ∷ []) (past_of squashes_now))
unfolding rules_of_events
replayed_refines = refl

-- ---- A store of the number that was there

-- These harts, where hart 1 has sw x0,0(x6).
abbrev silent : Setup
silent =
    core 2 (0x80001337 ∷ 0x00051863 ∷ 0x00032283 ∷ 0x00128393 ∷ 0x00032603 ∷ 0x00032023 ∷ [])

-- Number 4 retires with what it saw, though the word was stored to: numbers 6 and 8 go on.
abbrev squashes_none : List Event
squashes_none =
    overtaken 0x00032023 0 ++ Retire 2 4 (effect (Some 0) (Pc 0x8000000c))
    ∷ Retire 2 6 (effect (Some 1) (Pc 0x80000010))
    ∷ Complete 5 8 (access (Some 0) 0x80001000 None (Pc 0x80000014)) ∷ Retire 2 8 (effect (Some 0) (Pc 0x80000014)) ∷ []

-- Each of its 49 events is allowed as it comes.
unreplayed_is_allowed : refusal silent squashes_none ≡ None
unfolding refusal
unreplayed_is_allowed = refl

-- No job is dropped.
no_drop_after_a_silent_store : refusal silent (turned_at 46 squashes_none (Drop 5 8)) ≡ refusal_at 46 3
unfolding refusal
no_drop_after_a_silent_store = refl

-- The load's retirement squashes nothing.
fates_after_a_silent_store :
    map (fate (past_of (take 46 squashes_none))) (4 ∷ 5 ∷ 6 ∷ 7 ∷ 8 ∷ [])
    ≡ Retired ∷ Retired ∷ Completed ∷ InDecode ∷ Issued ∷ []
unfolding rules_of_events
fates_after_a_silent_store = refl

-- The store touched number 4. Number 8 looked after it, and is untouched: one of the two loads looks again.
touched_by_a_silent_store : map (is_touched (past_of squashes_none)) (4 ∷ 8 ∷ []) ≡ true ∷ false ∷ []
unfolding rules_of_events
touched_by_a_silent_store = refl

looks_after_a_silent_store :
    map (λ n. looks (past_of (take n squashes_none))) (45 ∷ 46 ∷ 47 ∷ 48 ∷ 49 ∷ []) ≡ 0 ∷ 1 ∷ 1 ∷ 1 ∷ 1 ∷ []
unfolding rules_of_events
looks_after_a_silent_store = refl

-- With the store of 2 number 8 is squashed, and is no load that retires.
looks_of_the_replayed : looks (past_of squashes_now) ∷ loads (past_of squashes_now) ∷ [] ≡ 1 ∷ 1 ∷ []
unfolding rules_of_events
looks_of_the_replayed = refl
