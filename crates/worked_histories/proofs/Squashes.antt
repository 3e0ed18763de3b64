-- Squashes, computed on worked histories: their numbers were found by hand. What is fetched behind the end of a hart
-- or on a predicted path that turns out wrong is squashed, and a job that was out then is dropped.
use Rattle.std.specs.Prelude.{◌≡◌, true, false, List, [], ◌∷◌, map, take, Some, None, refl}
use Rattle.events.specs.{declared.effect.Next.TheVariants.Pc, declared.effect.Next.TheVariants.Ended}
use Rattle.events.specs.{declared.effect.Next.TheVariants.Stopped, declared.event.Event.Event}
use Rattle.events.specs.declared.event.Event.TheVariants.{Fetch, Decode, Rename, Issue, Complete, Drop, Retire}
use Rattle.events.specs.declared.role.Role.TheVariants as role
use Rattle.smt_model.specs.declared.config.Status.TheVariants as status
use Rattle.smt_model.specs.{Basics.below, Setup.Setup, Fates.fate, Fates.Issued, Fates.Squashed, Registers.is_unclaimed}
use Rattle.smt_model.specs.{Registers.value, Fetching.fetch_pc, Jobs.job, Account.account, Account.open_job_count}
use Rattle.smt_model.specs.Flights.{icount, in_decode, in_rename, flight, queue, live}
use Rattle.worked_histories.proofs.Histories.{core, outcome, effect, past_of, turned_at, refusal, refusal_at}
use Rattle.worked_histories.proofs.Histories.{rules_of_events, standing, standing_after, order_of}
use Rattle.worked_histories.proofs.OneHart.{setup, worked_records}

-- ---- A job that is out as its hart ends

-- The run of `Rows`, with a fourth fetch behind the code. Number 3 issues before the hart ends and is dropped after it.
abbrev late : List Event
late =
    Fetch 0 0 0 0x80000000 (Some 0x00500513) 0x80000004 ∷ Fetch 0 0 1 0x80000004 (Some 0x05d00893) 0x80000008
    ∷ Fetch 0 0 2 0x80000008 (Some 0x00000073) 0x8000000c ∷ Fetch 0 0 3 0x8000000c None 0x80000010
    ∷ Decode 0 0 ∷ Decode 0 1 ∷ Decode 0 2 ∷ Decode 0 3
    ∷ Rename 0 0 (Some 31) ∷ Rename 0 1 (Some 32) ∷ Rename 0 2 None ∷ Rename 0 3 None
    ∷ Issue 0 0 ∷ Complete 0 0 (outcome (Some 5) (Pc 0x80000004))
    ∷ Issue 0 1 ∷ Complete 0 1 (outcome (Some 0x5d) (Pc 0x80000008))
    ∷ Issue 0 2 ∷ Complete 0 2 (outcome None (Ended 5))
    ∷ Issue 0 3
    ∷ Retire 0 0 (effect (Some 5) (Pc 0x80000004)) ∷ Retire 0 1 (effect (Some 0x5d) (Pc 0x80000008))
    ∷ Retire 0 2 (effect None (Ended 5)) ∷ Drop 0 3 ∷ []

-- Each of its events is allowed as it comes.
late_is_allowed : refusal setup late ≡ None
unfolding refusal
late_is_allowed = refl

-- It comes to the same three records, and no job is open.
late_account :
    account setup (past_of late)
    ≡ record { records = worked_records; output = []; statuses = status.Ended 5 ∷ []; lent = 0; events = 23 }
late_account = refl

-- Before the drop one was.
lent_before_the_drop : open_job_count setup (past_of (take 22 late)) ≡ 1
lent_before_the_drop = refl

-- Before the retirement that ends the hart number 3 is not squashed.
fate_before_the_end : fate (past_of (take 21 late)) 3 ≡ Issued
unfolding rules_of_events
fate_before_the_end = refl

-- After it, it is squashed.
fate_after_the_end : fate (past_of (take 22 late)) 3 ≡ Squashed
unfolding rules_of_events
fate_after_the_end = refl

-- Before the end it can be completed: there is no word, and it would stop its hart.
complete_before_the_end : refusal setup (turned_at 19 late (Complete 0 3 (outcome None (Stopped 1)))) ≡ None
unfolding refusal
complete_before_the_end = refl

-- But not dropped.
drop_before_the_end : refusal setup (turned_at 21 late (Drop 0 3)) ≡ refusal_at 21 3
unfolding refusal
drop_before_the_end = refl

-- After the end it can't be completed any more.
complete_after_the_end : refusal setup (turned_at 22 late (Complete 0 3 (outcome None (Stopped 1)))) ≡ refusal_at 22 3
unfolding refusal
complete_after_the_end = refl

-- Once dropped it is not dropped again.
drop_again : refusal setup (turned_at 23 late (Drop 0 3)) ≡ refusal_at 23 2
unfolding refusal
drop_again = refl

-- The hart's fetch pc stays where the last fetch left it.
fetch_pc_after_the_end : fetch_pc setup (past_of late) 0 ≡ 0x80000010
unfolding rules_of_events
fetch_pc_after_the_end = refl

-- ---- Every prediction is wrong: that pc 0 comes next

-- Of this program number 1 is fetched at 0, where there is no word, and is squashed as number 0 completes. Each of
-- the next is fetched once the one before has completed.
abbrev mispredicted : List Event
mispredicted =
    Fetch 0 0 0 0x80000000 (Some 0x00500513) 0x00000000 ∷ Fetch 0 0 1 0x00000000 None 0x00000004
    ∷ Decode 0 0 ∷ Decode 0 1 ∷ Rename 0 0 (Some 31) ∷ Rename 0 1 None
    ∷ Issue 0 0 ∷ Complete 0 0 (outcome (Some 5) (Pc 0x80000004))
    ∷ Fetch 0 0 2 0x80000004 (Some 0x05d00893) 0x00000000 ∷ Decode 0 2 ∷ Rename 0 2 (Some 32)
    ∷ Issue 0 2 ∷ Complete 0 2 (outcome (Some 0x5d) (Pc 0x80000008))
    ∷ Fetch 0 0 3 0x80000008 (Some 0x00000073) 0x00000000 ∷ Decode 0 3 ∷ Rename 0 3 None
    ∷ Issue 0 3 ∷ Complete 0 3 (outcome None (Ended 5))
    ∷ Retire 0 0 (effect (Some 5) (Pc 0x80000004)) ∷ Retire 0 2 (effect (Some 0x5d) (Pc 0x80000008))
    ∷ Retire 0 3 (effect None (Ended 5)) ∷ []

-- Each of its events is allowed as it comes.
mispredicted_is_allowed : refusal setup mispredicted ≡ None
unfolding refusal
mispredicted_is_allowed = refl

-- The records are the same three.
mispredicted_account :
    account setup (past_of mispredicted)
    ≡ record { records = worked_records; output = []; statuses = status.Ended 5 ∷ []; lent = 0; events = 21 }
mispredicted_account = refl

-- The plain machine ends where it does.
mispredicted_refines :
    standing_after setup (0x80000000 ∷ []) (order_of mispredicted)
    ≡ Some (standing setup (0x80000000 ∷ []) (past_of mispredicted))
unfolding rules_of_events
mispredicted_refines = refl

-- The hart's counter, after each number of events: a squash takes number 1 out of it, which was in the queue.
mispredicted_counters :
    map (λ n. icount (past_of (take n mispredicted)) 0) (below 22)
    ≡ 0 ∷ 1 ∷ 2 ∷ 2 ∷ 2 ∷ 2 ∷ 2 ∷ 1 ∷ 0 ∷ 1 ∷ 1 ∷ 1 ∷ 0 ∷ 0 ∷ 1 ∷ 1 ∷ 1 ∷ 0 ∷ 0 ∷ 0 ∷ 0 ∷ 0 ∷ []
unfolding rules_of_events
mispredicted_counters = refl

-- A squashed one is not issued.
no_issue_of_the_squashed : refusal setup (turned_at 8 mispredicted (Issue 0 1)) ≡ refusal_at 8 3
unfolding refusal
no_issue_of_the_squashed = refl

-- Nor is the wrong path followed.
no_fetch_on_the_wrong_path :
    refusal setup (turned_at 8 mispredicted (Fetch 0 0 2 0x00000004 None 0x00000008))
    ≡ refusal_at 8 4
unfolding refusal
no_fetch_on_the_wrong_path = refl

-- Before the completion the right one is not.
no_fetch_on_the_right_path_yet :
    refusal setup (turned_at 7 mispredicted (Fetch 0 0 2 0x80000004 (Some 0x05d00893) 0x00000000)) ≡ refusal_at 7 4
unfolding refusal
no_fetch_on_the_right_path_yet = refl

-- What ends its hart never squashes as it completes, although 0 was predicted: the hart would be fetched at 0.
no_squash_by_an_end : fetch_pc setup (past_of (take 18 mispredicted)) 0 ≡ 0
unfolding rules_of_events
no_squash_by_an_end = refl

-- ---- A squash takes the younger ones of its own hart, wherever they are, and no others

-- Two harts run the same program. Hart 0's first is wrongly predicted to jump over the second word.
abbrev two : Setup
two = core 2 (0x00500513 ∷ 0x05d00893 ∷ 0x00000073 ∷ [])

-- As number 0 completes, of hart 0 number 2 is in the queue, 4 in the rename latch and 6 in the decode latch, and of
-- hart 1 numbers 1, 3 and 5. Then hart 0 is fetched at the second word.
abbrev spared : List Event
spared =
    Fetch 0 0 0 0x80000000 (Some 0x00500513) 0x80000008 ∷ Fetch 0 1 1 0x80000000 (Some 0x00500513) 0x80000004
    ∷ Fetch 0 0 2 0x80000008 (Some 0x00000073) 0x8000000c ∷ Fetch 0 1 3 0x80000004 (Some 0x05d00893) 0x80000008
    ∷ Fetch 0 0 4 0x8000000c None 0x80000010 ∷ Fetch 0 1 5 0x80000008 (Some 0x00000073) 0x8000000c
    ∷ Fetch 0 0 6 0x80000010 None 0x80000014
    ∷ Decode 1 0 ∷ Decode 1 2 ∷ Decode 1 4 ∷ Decode 1 1 ∷ Decode 1 3
    ∷ Rename 1 0 (Some 62) ∷ Rename 1 2 None ∷ Rename 1 1 (Some 63)
    ∷ Issue 3 0 ∷ Complete 3 0 (outcome (Some 5) (Pc 0x80000004))
    ∷ Fetch 0 0 7 0x80000004 (Some 0x05d00893) 0x80000008 ∷ []

-- Each of its events is allowed as it comes.
spared_is_allowed : refusal two spared ≡ None
unfolding refusal
spared_is_allowed = refl

-- Before the completion all are there.
before_the_squash : map (live (past_of (take 16 spared))) (below 2) ≡ (0 ∷ 2 ∷ 4 ∷ 6 ∷ []) ∷ (1 ∷ 3 ∷ 5 ∷ []) ∷ []
unfolding rules_of_events
before_the_squash = refl

-- After it hart 0 has number 0 alone, and hart 1 all three.
after_the_squash : map (live (past_of (take 17 spared))) (below 2) ≡ (0 ∷ []) ∷ (1 ∷ 3 ∷ 5 ∷ []) ∷ []
unfolding rules_of_events
after_the_squash = refl

-- Hart 0's latches are empty, number 0 is in flight, and the queue has number 1 alone.
places_after_the_squash :
    in_decode (past_of (take 17 spared)) 0 ∷ in_rename (past_of (take 17 spared)) 0
    ∷ flight (past_of (take 17 spared)) 0 ∷ queue (past_of (take 17 spared)) ∷ []
    ≡ [] ∷ [] ∷ (0 ∷ []) ∷ (1 ∷ []) ∷ []
unfolding rules_of_events
places_after_the_squash = refl

-- Hart 0 has none in decode, rename and queue, hart 1 has three.
counters_after_the_squash : map (icount (past_of (take 17 spared))) (below 2) ≡ 0 ∷ 3 ∷ []
unfolding rules_of_events
counters_after_the_squash = refl

-- Hart 0 is fetched at the second word, and hart 1 where it was.
pcs_after_the_squash : map (fetch_pc two (past_of (take 17 spared))) (below 2) ≡ 0x80000004 ∷ 0x8000000c ∷ []
unfolding rules_of_events
pcs_after_the_squash = refl

-- ---- A register of a squashed instruction is named anew while its job is out

-- One hart with two units for arithmetic. Its first word is wrongly predicted to come again, as number 1. Number 1 is
-- out as it is squashed; its register, 32, is then number 2's. The call, number 3, finds x10 where number 0 put it.
abbrev two_units : Setup
two_units = record (core 1 (0x00500513 ∷ 0x05d00893 ∷ 0x00000073 ∷ [])) { roles = role.Alu ∷ role.Alu ∷ [] }

abbrev named_anew : List Event
named_anew =
    Fetch 0 0 0 0x80000000 (Some 0x00500513) 0x80000000 ∷ Fetch 0 0 1 0x80000000 (Some 0x00500513) 0x80000004
    ∷ Decode 0 0 ∷ Decode 0 1 ∷ Rename 0 0 (Some 31) ∷ Rename 0 1 (Some 32)
    ∷ Issue 0 0 ∷ Issue 1 1 ∷ Complete 0 0 (outcome (Some 5) (Pc 0x80000004))
    ∷ Fetch 0 0 2 0x80000004 (Some 0x05d00893) 0x80000008 ∷ Decode 0 2 ∷ Rename 0 2 (Some 32)
    ∷ Issue 0 2 ∷ Complete 0 2 (outcome (Some 0x5d) (Pc 0x80000008)) ∷ Drop 1 1
    ∷ Fetch 0 0 3 0x80000008 (Some 0x00000073) 0x8000000c ∷ Decode 0 3 ∷ Rename 0 3 None
    ∷ Issue 0 3 ∷ Complete 0 3 (outcome None (Ended 5))
    ∷ Retire 0 0 (effect (Some 5) (Pc 0x80000004)) ∷ Retire 0 2 (effect (Some 0x5d) (Pc 0x80000008))
    ∷ Retire 0 3 (effect None (Ended 5)) ∷ []

-- Each of its events is allowed as it comes.
named_anew_is_allowed : refusal two_units named_anew ≡ None
unfolding refusal
named_anew_is_allowed = refl

-- The plain machine ends where it does.
named_anew_refines : standing_after two_units [] (order_of named_anew)
    ≡ Some (standing two_units [] (past_of named_anew))
unfolding rules_of_events
named_anew_refines = refl

-- Register 32 is taken before the squash, free after it, and taken again by number 2.
register_32_is_free :
    map (λ n. is_unclaimed two_units (past_of (take n named_anew)) 32) (8 ∷ 9 ∷ 12 ∷ []) ≡ false ∷ true ∷ false ∷ []
unfolding rules_of_events
register_32_is_free = refl

-- The late job's number does not reach its new owner: it holds 93 before and after the drop.
values_of_32 :
    map (λ n. value two_units (past_of (take n named_anew)) 32) (12 ∷ 14 ∷ 15 ∷ []) ≡ None ∷ Some 93 ∷ Some 93 ∷ []
unfolding rules_of_events
values_of_32 = refl

-- Nor is it completed.
late_job_is_not_completed :
    refusal two_units (turned_at 14 named_anew (Complete 1 1 (outcome (Some 5) (Pc 0x80000004)))) ≡ refusal_at 14 3
unfolding refusal
late_job_is_not_completed = refl

-- Its unit is not free until it is dropped.
late_job_is_open : map (λ n. job (past_of (take n named_anew)) 1) (9 ∷ 14 ∷ 15 ∷ []) ≡ Some 1 ∷ Some 1 ∷ None ∷ []
late_job_is_open = refl
