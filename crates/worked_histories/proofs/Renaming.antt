-- Renaming and the sizes of its places, computed on worked histories: their numbers were found by hand.
use Rattle.std.specs.Prelude.{◌≡◌, ℕ, zero, suc, ◌+◌, ◌*◌, ◌%◌, List, [], ◌∷◌, ◌++◌, map, filter, take, length, Some}
use Rattle.std.specs.Prelude.{None, is_none, refl}
use Rattle.events.specs.{declared.effect.Next.TheVariants.Pc, declared.effect.Next.TheVariants.Stopped}
use Rattle.events.specs.{declared.event.Event.Event}
use Rattle.events.specs.declared.event.Event.TheVariants.{Fetch, Decode, Rename, Issue, Complete, Retire}
use Rattle.smt_model.specs.{Basics.below, Setup.Setup, Registers.committed, Registers.mapped, Rules.refused}
use Rattle.smt_model.specs.{Account.committed_value}
use Rattle.worked_histories.proofs.Histories.{core, one_word, outcome, effect, past_of, turned_at, refusal, refusal_at}
use Rattle.worked_histories.proofs.Histories.{rules_of_events, standing, standing_after, order_of}

-- ---- One register more than the harts' own

-- addi x0,x0,0; addi x5,x0,1; addi x7,x0,2; ebreak: on two harts. Of the 63 physical registers 62 alone is free.
abbrev scarce : Setup
scarce = record (core 2 (0x00000013 ∷ 0x00100293 ∷ 0x00200393 ∷ 0x00100073 ∷ [])) { extra = 1 }

-- Hart 0's x5 takes register 62, and its x7 has to wait. Hart 1's first has no destination and is renamed meanwhile;
-- its second waits too. As hart 0's x5 retires, the register that it was before, 4, is free, and x7 takes it.
abbrev waits : List Event
waits =
    Fetch 0 0 0 0x80000000 (Some 0x00000013) 0x80000004 ∷ Fetch 0 1 1 0x80000000 (Some 0x00000013) 0x80000004
    ∷ Fetch 0 0 2 0x80000004 (Some 0x00100293) 0x80000008 ∷ Fetch 0 1 3 0x80000004 (Some 0x00100293) 0x80000008
    ∷ Fetch 0 0 4 0x80000008 (Some 0x00200393) 0x8000000c
    ∷ Decode 1 0 ∷ Decode 1 2 ∷ Decode 1 4 ∷ Decode 1 1 ∷ Decode 1 3
    ∷ Rename 1 0 None ∷ Rename 1 2 (Some 62) ∷ Rename 1 1 None
    ∷ Issue 3 0 ∷ Complete 3 0 (outcome None (Pc 0x80000004))
    ∷ Issue 3 1 ∷ Complete 3 1 (outcome None (Pc 0x80000004))
    ∷ Issue 3 2 ∷ Complete 3 2 (outcome (Some 1) (Pc 0x80000008))
    ∷ Retire 2 0 (effect None (Pc 0x80000004)) ∷ Retire 2 2 (effect (Some 1) (Pc 0x80000008))
    ∷ Rename 1 4 (Some 4) ∷ []

-- Each of its events is allowed as it comes.
waits_is_allowed : refusal scarce waits ≡ None
unfolding refusal
waits_is_allowed = refl

-- They are 22 events.
count_of_events : length waits ≡ 22
count_of_events = refl

-- The registers to which an instruction may be renamed after n of these events.
abbrev open_to : ℕ → ℕ → List ℕ
open_to n seq = filter (λ p. is_none (refused scarce (past_of (take n waits)) (Rename 1 seq (Some p)))) (below 64)

-- At first it is 62 alone.
open_at_first : open_to 11 2 ≡ 62 ∷ []
unfolding rules_of_events
open_at_first = refl

-- Then there is none for hart 0's x7,
open_to_hart_0_then : open_to 12 4 ≡ []
unfolding rules_of_events
open_to_hart_0_then = refl

-- nor for hart 1's x5,
open_to_hart_1_then : open_to 13 3 ≡ []
unfolding rules_of_events
open_to_hart_1_then = refl

-- and at last 4 alone.
open_at_last : open_to 21 4 ≡ 4 ∷ []
unfolding rules_of_events
open_at_last = refl

-- While no register is free, going on with none is refused too.
no_rename_without : refusal scarce (turned_at 12 waits (Rename 1 4 None)) ≡ refusal_at 12 8
unfolding refusal
no_rename_without = refl

-- The one behind it in the latch is not renamed first.
no_overtaking : refusal scarce (turned_at 11 waits (Rename 1 4 (Some 62))) ≡ refusal_at 11 3
unfolding refusal
no_overtaking = refl

-- At the end hart 0's x5 is committed to 62, and its x7 is 4 in its map and still 6 in the committed one.
maps_at_the_end :
    committed (past_of waits) 0 5 ∷ mapped (past_of waits) 0 7 ∷ committed (past_of waits) 0 7 ∷ [] ≡ 62 ∷ 4 ∷ 6 ∷ []
unfolding rules_of_events
maps_at_the_end = refl

-- ---- A register is read after its writer has retired, and is then given away

-- addi x1,x0,1; addi x1,x1,1; addi x2,x0,7: on one hart. Of the 32 physical registers 31 alone is free.
abbrev passed_on : Setup
passed_on = record (core 1 (0x00100093 ∷ 0x00108093 ∷ 0x00700113 ∷ [])) { extra = 1 }

-- Each is renamed once the one before has retired: to 31, to 0, which x1 was at first, and to 31 again. The second
-- reads the first's number in 31; the third reads x0, while register 0 holds 2.
abbrev passing : List Event
passing =
    Fetch 0 0 0 0x80000000 (Some 0x00100093) 0x80000004 ∷ Fetch 0 0 1 0x80000004 (Some 0x00108093) 0x80000008
    ∷ Fetch 0 0 2 0x80000008 (Some 0x00700113) 0x8000000c ∷ Decode 1 0 ∷ Decode 1 1 ∷ Decode 1 2
    ∷ Rename 1 0 (Some 31) ∷ Issue 3 0 ∷ Complete 3 0 (outcome (Some 1) (Pc 0x80000004))
    ∷ Retire 2 0 (effect (Some 1) (Pc 0x80000004))
    ∷ Rename 1 1 (Some 0) ∷ Issue 3 1 ∷ Complete 3 1 (outcome (Some 2) (Pc 0x80000008))
    ∷ Retire 2 1 (effect (Some 2) (Pc 0x80000008))
    ∷ Rename 1 2 (Some 31) ∷ Issue 3 2 ∷ Complete 3 2 (outcome (Some 7) (Pc 0x8000000c))
    ∷ Retire 2 2 (effect (Some 7) (Pc 0x8000000c)) ∷ []

-- Each of its events is allowed as it comes.
passing_is_allowed : refusal passed_on passing ≡ None
unfolding refusal
passing_is_allowed = refl

-- The plain machine ends where it does.
passing_refines : standing_after passed_on [] (order_of passing) ≡ Some (standing passed_on [] (past_of passing))
unfolding rules_of_events
passing_refines = refl

-- x1 is in register 0 again, and x2 in 31.
registers_passed_on :
    map (λ r. committed (past_of passing) 0 r) (1 ∷ 2 ∷ []) ≡ 0 ∷ 31 ∷ []
unfolding rules_of_events
registers_passed_on = refl

-- They are 2 and 7.
numbers_passed_on :
    map (committed_value passed_on (past_of passing) 0) (1 ∷ 2 ∷ []) ≡ Some 2 ∷ Some 7 ∷ []
unfolding rules_of_events
numbers_passed_on = refl

-- ---- Full places. One hart fetches one word again and again, since what is predicted is free.

-- Eight fetches from number s on, their decodes and their renames; the word writes no register.
abbrev eight : ℕ → ℕ → List Event
eight word s =
    map (λ k. Fetch 0 0 (s + k) 0x80000000 (Some word) 0x80000000) (below 8)
    ++ map (λ k. Decode 1 (s + k)) (below 8) ++ map (λ k. Rename 1 (s + k) None) (below 8)

-- So often eight.
abbrev eights : ℕ → ℕ → List Event
eights word zero = []
eights word (suc n) = eights word n ++ eight word (8 * n)

-- And one more, up to its decode.
abbrev and_one : ℕ → ℕ → List Event
and_one word n =
    eights word n ++ Fetch 0 0 (8 * n) 0x80000000 (Some word) 0x80000000 ∷ Decode 1 (8 * n) ∷ []

-- A core of one hart with a queue of 64.
abbrev wide : ℕ → Setup
wide word = record (one_word word) { queue = 64 }

-- A queue of 16 has no room for a seventeenth, not even where the rename would break a later rule too.
full_queue :
    refusal (one_word 0x00000013) (and_one 0x00000013 2 ++ Rename 1 16 (Some 0) ∷ []) ≡ refusal_at 50 4
unfolding refusal
full_queue = refl

-- An issue makes room.
room_in_the_queue :
    refusal (one_word 0x00000013) (and_one 0x00000013 2 ++ Issue 3 0 ∷ Rename 1 16 None ∷ []) ≡ None
unfolding refusal
room_in_the_queue = refl

-- The queue is that of all harts: four of hart 0 fill one of four, and hart 1's first waits.
abbrev four_and_one : List Event
four_and_one =
    map (λ k. Fetch 0 (k % 2) k 0x80000000 (Some 0x00000013) 0x80000000) (below 8)
    ++ Decode 1 0 ∷ Decode 1 2 ∷ Decode 1 4 ∷ Decode 1 6 ∷ Decode 1 1
    ∷ Rename 1 0 None ∷ Rename 1 2 None ∷ Rename 1 4 None ∷ Rename 1 6 None ∷ Rename 1 1 None ∷ []

-- Its rename is the event that is refused.
full_for_both : refusal (record (core 2 (0x00000013 ∷ [])) { queue = 4 }) four_and_one ≡ refusal_at 17 4
unfolding refusal
full_for_both = refl

-- The active list has 64 places: a sixty-fifth waits, though an issue has made room in the queue. The word is ECALL.
full_active_list :
    refusal (wide 0x00000073) (and_one 0x00000073 8 ++ Issue 3 0 ∷ Rename 1 64 None ∷ []) ≡ refusal_at 195 5
unfolding refusal
full_active_list = refl

-- A completion makes no room there. Call 0 is unknown, so this one stops.
still_full :
    refusal (wide 0x00000073) (
    and_one 0x00000073 8 ++ Issue 3 0 ∷ Complete 3 0 (outcome None (Stopped 8)) ∷ Rename 1 64 None ∷ []
    )
    ≡ refusal_at 196 5
unfolding refusal
still_full = refl

-- The load queue has 16 places, which loads into x0 take too: `lw x0,0(x0)`.
full_load_queue : refusal (wide 0x00002003) (and_one 0x00002003 2 ++ Rename 1 16 None ∷ []) ≡ refusal_at 50 6
unfolding refusal
full_load_queue = refl

-- The store queue has 16: `sw x0,0(x0)`.
full_store_queue : refusal (wide 0x00002023) (and_one 0x00002023 2 ++ Rename 1 16 None ∷ []) ≡ refusal_at 50 7
unfolding refusal
full_store_queue = refl

-- LR is in neither: `lr.w x0,(x0)`.
no_queue_for_reservations : refusal (wide 0x1000202f) (and_one 0x1000202f 2 ++ Rename 1 16 None ∷ []) ≡ None
unfolding refusal
no_queue_for_reservations = refl

-- Nor is SC: `sc.w x0,x0,(x0)`.
no_queue_for_conditionals : refusal (wide 0x1800202f) (and_one 0x1800202f 2 ++ Rename 1 16 None ∷ []) ≡ None
unfolding refusal
no_queue_for_conditionals = refl

-- Nor an AMO: `amoadd.w x0,x0,(x0)`.
no_queue_for_atomics : refusal (wide 0x0000202f) (and_one 0x0000202f 2 ++ Rename 1 16 None ∷ []) ≡ None
unfolding refusal
no_queue_for_atomics = refl
