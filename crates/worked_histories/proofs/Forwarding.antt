-- What a load sees of its own hart's older stores, computed on worked histories whose numbers were found by hand: those
-- that have completed and not yet retired stand over memory, the others are not seen.
use Rattle.std.specs.Prelude.{◌≡◌, ◌++◌, List, [], ◌∷◌, map, take, replicate, Some, None, refl}
use Rattle.events.specs.{declared.effect.Next.TheVariants.Pc, declared.event.Event.Event}
use Rattle.events.specs.declared.event.Event.TheVariants.{Fetch, Decode, Rename, Issue, Complete, Retire}
use Rattle.events.specs.declared.role.Role.TheVariants as role
use Rattle.smt_model.specs.{Basics.below, Setup.Setup, Bytes.number_at, Memory.byte_at, Fetching.fetch_pc}
use Rattle.smt_model.specs.{Touched.looks}
use Rattle.smt_model.specs.Fates.{fate, Completed, Retired, Squashed}
use Rattle.worked_histories.proofs.Histories.{core, one_of_each, outcome, effect, access, write, past_of, turned_at}
use Rattle.worked_histories.proofs.Histories.{refusal, refusal_at, rules_of_events, standing, standing_after, order_of}

-- ---- A load behind an older store of its own hart

-- lui x6,0x80001; sw x11,0(x6); lw x5,0(x6); addi x7,x5,1: on one hart, so that 1 is stored.
abbrev one : Setup
one = core 1 (0x80001337 ∷ 0x00b32023 ∷ 0x00032283 ∷ 0x00128393 ∷ [])

-- All four are renamed, and the first completes.
abbrev begun : List Event
begun =
    Fetch 0 0 0 0x80000000 (Some 0x80001337) 0x80000004 ∷ Fetch 0 0 1 0x80000004 (Some 0x00b32023) 0x80000008
    ∷ Fetch 0 0 2 0x80000008 (Some 0x00032283) 0x8000000c ∷ Fetch 0 0 3 0x8000000c (Some 0x00128393) 0x80000010
    ∷ Decode 1 0 ∷ Decode 1 1 ∷ Decode 1 2 ∷ Decode 1 3
    ∷ Rename 1 0 (Some 31) ∷ Rename 1 1 None ∷ Rename 1 2 (Some 32) ∷ Rename 1 3 (Some 33)
    ∷ Issue 3 0 ∷ Complete 3 0 (outcome (Some 0x80001000) (Pc 0x80000004)) ∷ []

-- The store completes, and the load sees it before it has retired.
abbrev forwarded : List Event
forwarded =
    begun ++ Issue 5 1 ∷ Complete 5 1 (access None 0x80001000 (Some 1) (Pc 0x80000008))
    ∷ Issue 5 2 ∷ Complete 5 2 (access (Some 1) 0x80001000 None (Pc 0x8000000c))
    ∷ Issue 3 3 ∷ Complete 3 3 (outcome (Some 2) (Pc 0x80000010))
    ∷ Retire 2 0 (effect (Some 0x80001000) (Pc 0x80000004))
    ∷ Retire 2 1 (write None 0x80001000 4 1 (Pc 0x80000008))
    ∷ Retire 2 2 (effect (Some 1) (Pc 0x8000000c)) ∷ Retire 2 3 (effect (Some 2) (Pc 0x80000010)) ∷ []

-- Each of its 24 events is allowed as it comes.
forwarded_is_allowed : refusal one forwarded ≡ None
unfolding refusal
forwarded_is_allowed = refl

-- Memory has 0 as the load looks, and 1 as the store has retired.
memory_of_the_store :
    map (λ n. number_at (byte_at one (past_of (take n forwarded))) 0x80001000 4) (17 ∷ 21 ∷ 22 ∷ []) ≡ 0 ∷ 0 ∷ 1 ∷ []
unfolding rules_of_events
memory_of_the_store = refl

-- The load may not look past the store at memory.
no_look_past_the_store :
    refusal one (turned_at 17 forwarded (Complete 5 2 (access (Some 0) 0x80001000 None (Pc 0x8000000c))))
    ≡ refusal_at 17 4
unfolding refusal
no_look_past_the_store = refl

-- It doesn't retire before the store.
no_retirement_before_the_store :
    refusal one (turned_at 21 forwarded (Retire 2 2 (effect (Some 1) (Pc 0x8000000c)))) ≡ refusal_at 21 3
unfolding refusal
no_retirement_before_the_store = refl

-- Its retirement squashes nothing, and the hart is fetched where it was.
forwarding_squashes_nothing :
    map (fate (past_of (take 23 forwarded))) (below 4) ≡ Retired ∷ Retired ∷ Retired ∷ Completed ∷ []
unfolding rules_of_events
forwarding_squashes_nothing = refl

pc_after_forwarding : map (λ n. fetch_pc one (past_of (take n forwarded)) 0) (22 ∷ 23 ∷ []) ≡ replicate 2 0x80000010
unfolding rules_of_events
pc_after_forwarding = refl

-- The plain machine ends where it does.
forwarded_refines :
    standing_after one (0x80001000 ∷ []) (order_of forwarded) ≡ Some
    (standing one (0x80001000 ∷ []) (past_of forwarded))
unfolding rules_of_events
forwarded_refines = refl

-- The store touches the load that had its number from it, as it retires: the load looks again.
looks_after_forwarding : map (λ n. looks (past_of (take n forwarded))) (22 ∷ 23 ∷ 24 ∷ []) ≡ 0 ∷ 1 ∷ 1 ∷ []
unfolding rules_of_events
looks_after_forwarding = refl

-- ---- A load ahead of an older store of its own hart

-- This hart with a second unit for memory, actor 6.
abbrev two_units : Setup
two_units = record one { roles = one_of_each ++ role.Mem ∷ [] }

-- The load looks while the store is out, and sees 0. As it retires it has 1, and number 3 is squashed.
abbrev ahead : List Event
ahead =
    begun ++ Issue 5 1 ∷ Issue 6 2 ∷ Complete 6 2 (access (Some 0) 0x80001000 None (Pc 0x8000000c))
    ∷ Complete 5 1 (access None 0x80001000 (Some 1) (Pc 0x80000008))
    ∷ Issue 3 3 ∷ Complete 3 3 (outcome (Some 1) (Pc 0x80000010))
    ∷ Retire 2 0 (effect (Some 0x80001000) (Pc 0x80000004))
    ∷ Retire 2 1 (write None 0x80001000 4 1 (Pc 0x80000008))
    ∷ Retire 2 2 (effect (Some 1) (Pc 0x8000000c)) ∷ []

-- Each of its 23 events is allowed as it comes.
ahead_is_allowed : refusal two_units ahead ≡ None
unfolding refusal
ahead_is_allowed = refl

-- A store that has not completed is not seen.
no_look_at_a_store_that_is_out :
    refusal two_units (turned_at 16 ahead (Complete 6 2 (access (Some 1) 0x80001000 None (Pc 0x8000000c))))
    ≡ refusal_at 16 4
unfolding refusal
no_look_at_a_store_that_is_out = refl

-- The load may not keep what it saw.
no_stale_retirement :
    refusal two_units (turned_at 22 ahead (Retire 2 2 (effect (Some 0) (Pc 0x8000000c)))) ≡ refusal_at 22 4
unfolding refusal
no_stale_retirement = refl

-- Number 3, which had added 1 to 0, is squashed.
fates_after_the_store : map (fate (past_of ahead)) (below 4) ≡ Retired ∷ Retired ∷ Retired ∷ Squashed ∷ []
unfolding rules_of_events
fates_after_the_store = refl

-- The hart is fetched behind the load again.
pcs_around_the_load : map (λ n. fetch_pc two_units (past_of (take n ahead)) 0) (22 ∷ 23 ∷ [])
    ≡ 0x80000010 ∷ 0x8000000c ∷ []
unfolding rules_of_events
pcs_around_the_load = refl

-- ---- A load behind two older stores and ahead of a younger one

-- lui x6,0x80001; sw x11,0(x6); addi x5,x0,-1; sb x5,1(x6); lw x7,0(x6); sb x5,2(x6): one hart, two units for memory
abbrev layers : Setup
layers =
    record (core 1 (0x80001337 ∷ 0x00b32023 ∷ 0xfff00293 ∷ 0x005300a3 ∷ 0x00032383 ∷ 0x00530123 ∷ [])) {
      roles = one_of_each ++ role.Mem ∷ [];
    }

-- As number 4 looks all three stores have completed. It sees the 1 of the first with the ff of the second over it.
abbrev layered : List Event
layered =
    Fetch 0 0 0 0x80000000 (Some 0x80001337) 0x80000004 ∷ Fetch 0 0 1 0x80000004 (Some 0x00b32023) 0x80000008
    ∷ Fetch 0 0 2 0x80000008 (Some 0xfff00293) 0x8000000c ∷ Fetch 0 0 3 0x8000000c (Some 0x005300a3) 0x80000010
    ∷ Fetch 0 0 4 0x80000010 (Some 0x00032383) 0x80000014 ∷ Fetch 0 0 5 0x80000014 (Some 0x00530123) 0x80000018
    ∷ Decode 1 0 ∷ Decode 1 1 ∷ Decode 1 2 ∷ Decode 1 3 ∷ Decode 1 4 ∷ Decode 1 5
    ∷ Rename 1 0 (Some 31) ∷ Rename 1 1 None ∷ Rename 1 2 (Some 32) ∷ Rename 1 3 None ∷ Rename 1 4 (Some 33)
    ∷ Rename 1 5 None
    ∷ Issue 3 0 ∷ Complete 3 0 (outcome (Some 0x80001000) (Pc 0x80000004))
    ∷ Issue 3 2 ∷ Complete 3 2 (outcome (Some 0xffffffff) (Pc 0x8000000c))
    ∷ Issue 5 1 ∷ Complete 5 1 (access None 0x80001000 (Some 1) (Pc 0x80000008))
    ∷ Issue 5 3 ∷ Complete 5 3 (access None 0x80001001 (Some 0xff) (Pc 0x80000010))
    ∷ Issue 5 4 ∷ Issue 6 5 ∷ Complete 6 5 (access None 0x80001002 (Some 0xff) (Pc 0x80000018))
    ∷ Complete 5 4 (access (Some 0x0000ff01) 0x80001000 None (Pc 0x80000014))
    ∷ Retire 2 0 (effect (Some 0x80001000) (Pc 0x80000004)) ∷ Retire 2 1 (write None 0x80001000 4 1 (Pc 0x80000008))
    ∷ Retire 2 2 (effect (Some 0xffffffff) (Pc 0x8000000c)) ∷ Retire 2 3 (write None 0x80001001 1 0xff (Pc 0x80000010))
    ∷ Retire 2 4 (effect (Some 0x0000ff01) (Pc 0x80000014)) ∷ Retire 2 5
    (write None 0x80001002 1 0xff (Pc 0x80000018)) ∷ []

-- Each of its 36 events is allowed as it comes.
layered_is_allowed : refusal layers layered ≡ None
unfolding refusal
layered_is_allowed = refl

-- The load sees neither the younger store nor one of the older ones alone.
no_look_at_a_younger_store :
    refusal layers (turned_at 29 layered (Complete 5 4 (access (Some 0x00ffff01) 0x80001000 None (Pc 0x80000014))))
    ≡ refusal_at 29 4
unfolding refusal
no_look_at_a_younger_store = refl

no_look_past_the_second_store :
    refusal layers (turned_at 29 layered (Complete 5 4 (access (Some 0x00000001) 0x80001000 None (Pc 0x80000014))))
    ≡ refusal_at 29 4
unfolding refusal
no_look_past_the_second_store = refl

no_look_past_the_first_store :
    refusal layers (turned_at 29 layered (Complete 5 4 (access (Some 0x0000ff00) 0x80001000 None (Pc 0x80000014))))
    ≡ refusal_at 29 4
unfolding refusal
no_look_past_the_first_store = refl

-- Its retirement squashes nothing.
fates_after_the_layers : map (fate (past_of (take 35 layered))) (4 ∷ 5 ∷ []) ≡ Retired ∷ Completed ∷ []
unfolding rules_of_events
fates_after_the_layers = refl

-- At the end the word has all three.
word_of_the_layers : number_at (byte_at layers (past_of layered)) 0x80001000 4 ≡ 0x00ffff01
unfolding rules_of_events
word_of_the_layers = refl

-- The plain machine ends where it does.
layered_refines :
    standing_after layers (0x80001000 ∷ []) (order_of layered) ≡ Some
    (standing layers (0x80001000 ∷ []) (past_of layered))
unfolding rules_of_events
layered_refines = refl

-- ---- A load behind a store that was squashed

-- lui x6,0x80001; beq x0,x0,8; sw x11,0(x6); lw x5,0(x6): one hart, on which the jump is predicted not to be taken
abbrev skipping : Setup
skipping = core 1 (0x80001337 ∷ 0x00000463 ∷ 0x00b32023 ∷ 0x00032283 ∷ [])

-- Number 2, the store, completes before the jump, which squashes it. The load then sees 0.
abbrev skipped : List Event
skipped =
    Fetch 0 0 0 0x80000000 (Some 0x80001337) 0x80000004 ∷ Fetch 0 0 1 0x80000004 (Some 0x00000463) 0x80000008
    ∷ Fetch 0 0 2 0x80000008 (Some 0x00b32023) 0x8000000c
    ∷ Decode 1 0 ∷ Decode 1 1 ∷ Decode 1 2 ∷ Rename 1 0 (Some 31) ∷ Rename 1 1 None ∷ Rename 1 2 None
    ∷ Issue 3 0 ∷ Complete 3 0 (outcome (Some 0x80001000) (Pc 0x80000004))
    ∷ Issue 5 2 ∷ Complete 5 2 (access None 0x80001000 (Some 1) (Pc 0x8000000c))
    ∷ Issue 3 1 ∷ Complete 3 1 (outcome None (Pc 0x8000000c))
    ∷ Fetch 0 0 3 0x8000000c (Some 0x00032283) 0x80000010 ∷ Decode 1 3 ∷ Rename 1 3 (Some 32)
    ∷ Issue 5 3 ∷ Complete 5 3 (access (Some 0) 0x80001000 None (Pc 0x80000010))
    ∷ Retire 2 0 (effect (Some 0x80001000) (Pc 0x80000004)) ∷ Retire 2 1 (effect None (Pc 0x8000000c))
    ∷ Retire 2 3 (effect (Some 0) (Pc 0x80000010)) ∷ []

-- Each of its 23 events is allowed as it comes.
skipped_is_allowed : refusal skipping skipped ≡ None
unfolding refusal
skipped_is_allowed = refl

-- The load may not see the squashed store.
no_look_at_a_squashed_store :
    refusal skipping (turned_at 19 skipped (Complete 5 3 (access (Some 1) 0x80001000 None (Pc 0x80000010))))
    ≡ refusal_at 19 4
unfolding refusal
no_look_at_a_squashed_store = refl

-- Nor does that store retire.
no_retirement_of_the_squashed_store :
    refusal skipping (turned_at 22 skipped (Retire 2 2 (write None 0x80001000 4 1 (Pc 0x8000000c)))) ≡ refusal_at 22 2
unfolding refusal
no_retirement_of_the_squashed_store = refl

-- The plain machine ends where it does.
skipped_refines :
    standing_after skipping (0x80001000 ∷ []) (order_of skipped)
    ≡ Some (standing skipping (0x80001000 ∷ []) (past_of skipped))
unfolding rules_of_events
skipped_refines = refl
