-- Reservations, computed on worked histories whose numbers were found by hand: a store-conditional that finds its
-- hart's reservation writes, and one whose word another hart has stored to in between does not.
use Rattle.std.specs.Prelude.{◌≡◌, ℕ, ◌++◌, List, [], ◌∷◌, map, take, Some, None, refl}
use Rattle.events.specs.{declared.effect.Next.TheVariants.Pc, declared.event.Event.Event}
use Rattle.events.specs.declared.event.Event.TheVariants.{Fetch, Decode, Rename, Issue, Complete, Retire}
use Rattle.smt_model.specs.{Basics.below, Setup.Setup, Bytes.number_at, Memory.byte_at, Memory.reserved}
use Rattle.smt_model.specs.{Account.committed_value}
use Rattle.worked_histories.proofs.Histories.{core, outcome, effect, access, write, past_of, turned_at, refusal}
use Rattle.worked_histories.proofs.Histories.{refusal_at, rules_of_events, standing, standing_after, order_of}

-- lui x6,0x80001; bne x10,x0,12; lr.w x5,(x6); sc.w x7,x11,(x6); sw x10,0(x6): on two harts. Hart 0 reserves the word
-- and stores 2, the number of harts, under the reservation; hart 1 jumps to the last word and stores 1, its own number.
abbrev two : Setup
two = core 2 (0x80001337 ∷ 0x00051663 ∷ 0x100322af ∷ 0x18b323af ∷ 0x00a32023 ∷ [])

-- Hart 0 has numbers 0, 2, 4 and 6, hart 1 has 1, 3 and 5. All complete, and retire as far as the jumps. The word of
-- hart 1's store and its address are given.
abbrev begun : ℕ → ℕ → List Event
begun word addr =
    Fetch 0 0 0 0x80000000 (Some 0x80001337) 0x80000004 ∷ Fetch 0 1 1 0x80000000 (Some 0x80001337) 0x80000004
    ∷ Fetch 0 0 2 0x80000004 (Some 0x00051663) 0x80000008 ∷ Fetch 0 1 3 0x80000004 (Some 0x00051663) 0x80000010
    ∷ Fetch 0 0 4 0x80000008 (Some 0x100322af) 0x8000000c ∷ Fetch 0 1 5 0x80000010 (Some word) 0x80000014
    ∷ Fetch 0 0 6 0x8000000c (Some 0x18b323af) 0x80000010
    ∷ Decode 1 0 ∷ Decode 1 1 ∷ Decode 1 2 ∷ Decode 1 3 ∷ Decode 1 4 ∷ Decode 1 5 ∷ Decode 1 6
    ∷ Rename 1 0 (Some 62) ∷ Rename 1 1 (Some 63) ∷ Rename 1 2 None ∷ Rename 1 3 None
    ∷ Rename 1 4 (Some 64) ∷ Rename 1 5 None ∷ Rename 1 6 (Some 65)
    ∷ Issue 3 0 ∷ Complete 3 0 (outcome (Some 0x80001000) (Pc 0x80000004))
    ∷ Issue 3 1 ∷ Complete 3 1 (outcome (Some 0x80001000) (Pc 0x80000004))
    ∷ Issue 3 2 ∷ Complete 3 2 (outcome None (Pc 0x80000008))
    ∷ Issue 3 3 ∷ Complete 3 3 (outcome None (Pc 0x80000010))
    ∷ Issue 5 4 ∷ Complete 5 4 (access None 0x80001000 None (Pc 0x8000000c))
    ∷ Issue 5 5 ∷ Complete 5 5 (access None addr (Some 1) (Pc 0x80000014))
    ∷ Issue 5 6 ∷ Complete 5 6 (access None 0x80001000 (Some 2) (Pc 0x80000010))
    ∷ Retire 2 0 (effect (Some 0x80001000) (Pc 0x80000004)) ∷ Retire 2 2 (effect None (Pc 0x80000008))
    ∷ Retire 2 1 (effect (Some 0x80001000) (Pc 0x80000004)) ∷ Retire 2 3 (effect None (Pc 0x80000010)) ∷ []

-- ---- The store of hart 1 comes last

abbrev succeeding : List Event
succeeding =
    begun 0x00a32023 0x80001000 ++ Retire 2 4 (effect (Some 0) (Pc 0x8000000c))
    ∷ Retire 2 6 (write (Some 0) 0x80001000 4 2 (Pc 0x80000010))
    ∷ Retire 2 5 (write None 0x80001000 4 1 (Pc 0x80000014)) ∷ []

-- Each of its 42 events is allowed as it comes.
succeeding_is_allowed : refusal two succeeding ≡ None
unfolding refusal
succeeding_is_allowed = refl

-- The store-conditional may not fail.
no_failure : refusal two (turned_at 40 succeeding (Retire 2 6 (effect (Some 1) (Pc 0x80000010)))) ≡ refusal_at 40 4
unfolding refusal
no_failure = refl

-- Nor may it say success and write nothing, nor write and say failure, nor write another number.
no_success_without_a_write :
    refusal two (turned_at 40 succeeding (Retire 2 6 (effect (Some 0) (Pc 0x80000010)))) ≡ refusal_at 40 4
unfolding refusal
no_success_without_a_write = refl

no_failure_with_a_write :
    refusal two (turned_at 40 succeeding (Retire 2 6 (write (Some 1) 0x80001000 4 2 (Pc 0x80000010)))) ≡ refusal_at 40 4
unfolding refusal
no_failure_with_a_write = refl

no_write_of_another_number :
    refusal two (turned_at 40 succeeding (Retire 2 6 (write (Some 0) 0x80001000 4 1 (Pc 0x80000010)))) ≡ refusal_at 40 4
unfolding refusal
no_write_of_another_number = refl

-- Its number isn't known as it completes.
no_result_at_completion :
    refusal two (turned_at 34 succeeding (Complete 5 6 (access (Some 0) 0x80001000 (Some 2) (Pc 0x80000010))))
    ≡ refusal_at 34 4
unfolding refusal
no_result_at_completion = refl

-- The word is reserved from the retirement of the load-reserved to that of the store-conditional, by hart 0 alone.
reservations_of_the_success :
    map (λ n. map (reserved (past_of (take n succeeding))) (below 2)) (39 ∷ 40 ∷ 41 ∷ 42 ∷ [])
    ≡ (None ∷ None ∷ []) ∷ (Some 0x80001000 ∷ None ∷ []) ∷ (None ∷ None ∷ []) ∷ (None ∷ None ∷ []) ∷ []
unfolding rules_of_events
reservations_of_the_success = refl

-- The word is 0, then 2, then 1.
words_of_the_success :
    map (λ n. number_at (byte_at two (past_of (take n succeeding))) 0x80001000 4) (40 ∷ 41 ∷ 42 ∷ []) ≡ 0 ∷ 2 ∷ 1 ∷ []
unfolding rules_of_events
words_of_the_success = refl

-- The plain machine, run in that order, ends where the history does.
succeeding_refines :
    standing_after two (0x80001000 ∷ []) (order_of succeeding) ≡ Some
    (standing two (0x80001000 ∷ []) (past_of succeeding))
unfolding rules_of_events
succeeding_refines = refl

-- ---- The store of hart 1 comes in between

abbrev failing : List Event
failing =
    begun 0x00a32023 0x80001000 ++ Retire 2 4 (effect (Some 0) (Pc 0x8000000c))
    ∷ Retire 2 5 (write None 0x80001000 4 1 (Pc 0x80000014))
    ∷ Retire 2 6 (effect (Some 1) (Pc 0x80000010)) ∷ []

-- Each of its 42 events is allowed as it comes.
failing_is_allowed : refusal two failing ≡ None
unfolding refusal
failing_is_allowed = refl

-- The store-conditional may not succeed.
no_success :
    refusal two (turned_at 41 failing (Retire 2 6 (write (Some 0) 0x80001000 4 2 (Pc 0x80000010)))) ≡ refusal_at 41 4
unfolding refusal
no_success = refl

-- Nor may it say success and write nothing, nor write and say failure.
no_silent_success : refusal two (turned_at 41 failing (Retire 2 6 (effect (Some 0) (Pc 0x80000010)))) ≡ refusal_at 41 4
unfolding refusal
no_silent_success = refl

no_write_of_the_failed :
    refusal two (turned_at 41 failing (Retire 2 6 (write (Some 1) 0x80001000 4 2 (Pc 0x80000010)))) ≡ refusal_at 41 4
unfolding refusal
no_write_of_the_failed = refl

-- The store of hart 1 ends hart 0's reservation.
reservations_of_the_failure :
    map (λ n. map (reserved (past_of (take n failing))) (below 2)) (39 ∷ 40 ∷ 41 ∷ 42 ∷ [])
    ≡ (None ∷ None ∷ []) ∷ (Some 0x80001000 ∷ None ∷ []) ∷ (None ∷ None ∷ []) ∷ (None ∷ None ∷ []) ∷ []
unfolding rules_of_events
reservations_of_the_failure = refl

-- The word is 0, then 1, and stays 1.
words_of_the_failure :
    map (λ n. number_at (byte_at two (past_of (take n failing))) 0x80001000 4) (40 ∷ 41 ∷ 42 ∷ []) ≡ 0 ∷ 1 ∷ 1 ∷ []
unfolding rules_of_events
words_of_the_failure = refl

-- Hart 0's x5 and x7 are 0 and 0 after the success, 0 and 1 after the failure.
registers_of_both :
    map (committed_value two (past_of succeeding) 0) (5 ∷ 7 ∷ [])
    ∷ map (committed_value two (past_of failing) 0) (5 ∷ 7 ∷ []) ∷ []
    ≡ (Some 0 ∷ Some 0 ∷ []) ∷ (Some 0 ∷ Some 1 ∷ []) ∷ []
unfolding rules_of_events
registers_of_both = refl

-- The plain machine, run in that order, ends where the history does.
failing_refines :
    standing_after two (0x80001000 ∷ []) (order_of failing) ≡ Some (standing two (0x80001000 ∷ []) (past_of failing))
unfolding rules_of_events
failing_refines = refl

-- ---- The store of hart 1 comes before the load-reserved

abbrev before_it : List Event
before_it =
    begun 0x00a32023 0x80001000 ++ Retire 2 5 (write None 0x80001000 4 1 (Pc 0x80000014))
    ∷ Retire 2 4 (effect (Some 1) (Pc 0x8000000c))
    ∷ Retire 2 6 (write (Some 0) 0x80001000 4 2 (Pc 0x80000010)) ∷ []

-- The load-reserved has the 1, though it completed before the store did, and the store-conditional succeeds.
before_it_is_allowed : refusal two before_it ≡ None
unfolding refusal
before_it_is_allowed = refl

-- The load-reserved may not give the word that was there as it completed.
no_old_word : refusal two (turned_at 40 before_it (Retire 2 4 (effect (Some 0) (Pc 0x8000000c)))) ≡ refusal_at 40 4
unfolding refusal
no_old_word = refl

-- At the end the word is 2 and hart 0's x5 and x7 are 1 and 0.
word_of_it :
    number_at (byte_at two (past_of before_it)) 0x80001000 4 ≡ 2
unfolding rules_of_events
word_of_it = refl

registers_of_it : map (committed_value two (past_of before_it) 0) (5 ∷ 7 ∷ []) ≡ Some 1 ∷ Some 0 ∷ []
unfolding rules_of_events
registers_of_it = refl

-- ---- The store of hart 1 is to the next word

-- These harts, where hart 1 has sw x10,4(x6).
abbrev apart : Setup
apart = core 2 (0x80001337 ∷ 0x00051663 ∷ 0x100322af ∷ 0x18b323af ∷ 0x00a32223 ∷ [])

abbrev undisturbed : List Event
undisturbed =
    begun 0x00a32223 0x80001004 ++ Retire 2 4 (effect (Some 0) (Pc 0x8000000c))
    ∷ Retire 2 5 (write None 0x80001004 4 1 (Pc 0x80000014)) ∷ Retire 2 6
    (write (Some 0) 0x80001000 4 2 (Pc 0x80000010)) ∷ []

-- It comes in between, and the store-conditional succeeds.
undisturbed_is_allowed : refusal apart undisturbed ≡ None
unfolding refusal
undisturbed_is_allowed = refl

-- It may not fail.
no_failure_by_another_word :
    refusal apart (turned_at 41 undisturbed (Retire 2 6 (effect (Some 1) (Pc 0x80000010)))) ≡ refusal_at 41 4
unfolding refusal
no_failure_by_another_word = refl

-- The reservation stays until then.
reservations_of_another_word :
    map (λ n. reserved (past_of (take n undisturbed)) 0) (40 ∷ 41 ∷ 42 ∷ [])
    ≡ Some 0x80001000 ∷ Some 0x80001000 ∷ None ∷ []
unfolding rules_of_events
reservations_of_another_word = refl

-- ---- A store-conditional with no reservation

-- lui x6,0x80001; sc.w x7,x11,(x6): on one hart
abbrev lone : Setup
lone = core 1 (0x80001337 ∷ 0x18b323af ∷ [])

abbrev unreserved : List Event
unreserved =
    Fetch 0 0 0 0x80000000 (Some 0x80001337) 0x80000004 ∷ Fetch 0 0 1 0x80000004 (Some 0x18b323af) 0x80000008
    ∷ Decode 1 0 ∷ Decode 1 1 ∷ Rename 1 0 (Some 31) ∷ Rename 1 1 (Some 32)
    ∷ Issue 3 0 ∷ Complete 3 0 (outcome (Some 0x80001000) (Pc 0x80000004))
    ∷ Issue 5 1 ∷ Complete 5 1 (access None 0x80001000 (Some 1) (Pc 0x80000008))
    ∷ Retire 2 0 (effect (Some 0x80001000) (Pc 0x80000004)) ∷ Retire 2 1 (effect (Some 1) (Pc 0x80000008)) ∷ []

-- It fails.
unreserved_is_allowed : refusal lone unreserved ≡ None
unfolding refusal
unreserved_is_allowed = refl

-- It may not succeed.
no_success_without_a_reservation :
    refusal lone (turned_at 11 unreserved (Retire 2 1 (write (Some 0) 0x80001000 4 1 (Pc 0x80000008))))
    ≡ refusal_at 11 4
unfolding refusal
no_success_without_a_reservation = refl

-- ---- A store-conditional to another word

-- lui x6,0x80001; lr.w x5,(x6); addi x8,x6,4; sc.w x7,x11,(x8); sc.w x9,x11,(x6): on one hart
abbrev mispredicted_next : Setup
mispredicted_next = core 1 (0x80001337 ∷ 0x100322af ∷ 0x00430413 ∷ 0x18b423af ∷ 0x18b324af ∷ [])

abbrev ended : List Event
ended =
    Fetch 0 0 0 0x80000000 (Some 0x80001337) 0x80000004 ∷ Fetch 0 0 1 0x80000004 (Some 0x100322af) 0x80000008
    ∷ Fetch 0 0 2 0x80000008 (Some 0x00430413) 0x8000000c ∷ Fetch 0 0 3 0x8000000c (Some 0x18b423af) 0x80000010
    ∷ Fetch 0 0 4 0x80000010 (Some 0x18b324af) 0x80000014
    ∷ Decode 1 0 ∷ Decode 1 1 ∷ Decode 1 2 ∷ Decode 1 3 ∷ Decode 1 4
    ∷ Rename 1 0 (Some 31) ∷ Rename 1 1 (Some 32) ∷ Rename 1 2 (Some 33) ∷ Rename 1 3 (Some 34) ∷ Rename 1 4 (Some 35)
    ∷ Issue 3 0 ∷ Complete 3 0 (outcome (Some 0x80001000) (Pc 0x80000004))
    ∷ Issue 3 2 ∷ Complete 3 2 (outcome (Some 0x80001004) (Pc 0x8000000c))
    ∷ Issue 5 1 ∷ Complete 5 1 (access None 0x80001000 None (Pc 0x80000008))
    ∷ Issue 5 3 ∷ Complete 5 3 (access None 0x80001004 (Some 1) (Pc 0x80000010))
    ∷ Issue 5 4 ∷ Complete 5 4 (access None 0x80001000 (Some 1) (Pc 0x80000014))
    ∷ Retire 2 0 (effect (Some 0x80001000) (Pc 0x80000004)) ∷ Retire 2 1 (effect (Some 0) (Pc 0x80000008))
    ∷ Retire 2 2 (effect (Some 0x80001004) (Pc 0x8000000c))
    ∷ Retire 2 3 (effect (Some 1) (Pc 0x80000010)) ∷ Retire 2 4 (effect (Some 1) (Pc 0x80000014)) ∷ []

-- It fails, and so does the next one to the reserved word.
ended_is_allowed : refusal mispredicted_next ended ≡ None
unfolding refusal
ended_is_allowed = refl

-- Neither may succeed.
no_success_elsewhere :
    refusal mispredicted_next (turned_at 28 ended (Retire 2 3 (write (Some 0) 0x80001004 4 1 (Pc 0x80000010))))
    ≡ refusal_at 28 4
unfolding refusal
no_success_elsewhere = refl

no_success_after_it :
    refusal mispredicted_next (turned_at 29 ended (Retire 2 4 (write (Some 0) 0x80001000 4 1 (Pc 0x80000014))))
    ≡ refusal_at 29 4
unfolding refusal
no_success_after_it = refl

-- The first one ended the reservation.
reservations_of_the_failed :
    map (λ n. reserved (past_of (take n ended)) 0) (26 ∷ 27 ∷ 28 ∷ 29 ∷ 30 ∷ [])
    ≡ None ∷ Some 0x80001000 ∷ Some 0x80001000 ∷ None ∷ None ∷ []
unfolding rules_of_events
reservations_of_the_failed = refl
