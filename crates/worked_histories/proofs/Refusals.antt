-- The worked run with one event changed, and the first rule that refuses the change. Each row names the event by how
-- many came before it. The rules have their numbers from `Rules`; the numbers here were found by hand.
use Rattle.std.specs.Prelude.{◌≡◌, ℕ, List, ◌∷◌, ◌++◌, take, drop, Option, Some, None, refl}
use Rattle.events.specs.{declared.effect.Next.TheVariants.Pc, declared.effect.Next.TheVariants.Ended}
use Rattle.events.specs.{declared.effect.Next.TheVariants.Stopped, declared.event.Event.Event}
use Rattle.events.specs.declared.event.Event.TheVariants.{Fetch, Decode, Rename, Issue, Complete, Drop, Retire}
use Rattle.smt_model.specs.Account.{account}
use Rattle.worked_histories.proofs.Histories.{outcome, effect, write, past_of, turned_at, Refusal, refusal, refusal_at}
use Rattle.worked_histories.proofs.OneHart.{setup, worked}

-- The first refusal where event n of the worked run is this one.
abbrev turned : ℕ → Event → Option Refusal
turned n e = refusal setup (turned_at n worked e)

-- ---- Fetch

-- Actor 1 is not configured.
fetch_by_a_stranger : turned 0 (Fetch 1 0 0 0x80000000 (Some 0x00500513) 0x80000004) ≡ refusal_at 0 1
unfolding refusal
fetch_by_a_stranger = refl

-- There is no hart 1.
fetch_of_another_hart : turned 0 (Fetch 0 1 0 0x80000000 (Some 0x00500513) 0x80000004) ≡ refusal_at 0 2
unfolding refusal
fetch_of_another_hart = refl

-- Once the hart has ended there is no hart to fetch.
fetch_after_the_end : turned 18 (Fetch 0 0 3 0x8000000c None 0x80000010) ≡ refusal_at 18 2
unfolding refusal
fetch_after_the_end = refl

-- The second fetch has number 1, not the first one's.
fetch_of_a_number_used : turned 1 (Fetch 0 0 0 0x80000004 (Some 0x05d00893) 0x80000008) ≡ refusal_at 1 3
unfolding refusal
fetch_of_a_number_used = refl

-- Nor number 2.
fetch_of_a_number_too_high : turned 1 (Fetch 0 0 2 0x80000004 (Some 0x05d00893) 0x80000008) ≡ refusal_at 1 3
unfolding refusal
fetch_of_a_number_too_high = refl

-- It is at the pc that the first predicted.
fetch_elsewhere : turned 1 (Fetch 0 0 1 0x80000008 (Some 0x00000073) 0x8000000c) ≡ refusal_at 1 4
unfolding refusal
fetch_elsewhere = refl

-- The word is the one in the code.
fetch_of_another_word : turned 1 (Fetch 0 0 1 0x80000004 (Some 0x05d00892) 0x80000008) ≡ refusal_at 1 5
unfolding refusal
fetch_of_another_word = refl

-- A word that is there is fetched.
fetch_of_no_word : turned 1 (Fetch 0 0 1 0x80000004 None 0x80000008) ≡ refusal_at 1 5
unfolding refusal
fetch_of_no_word = refl

-- Behind the code there is no word, not a word 0.
fetch_of_a_word_past_the_code : turned 3 (Fetch 0 0 3 0x8000000c (Some 0) 0x80000010) ≡ refusal_at 3 5
unfolding refusal
fetch_of_a_word_past_the_code = refl

-- A fetch behind the code is allowed.
fetch_past_the_code : turned 3 (Fetch 0 0 3 0x8000000c None 0x80000010) ≡ None
unfolding refusal
fetch_past_the_code = refl

-- What is predicted is free.
any_prediction : turned 0 (Fetch 0 0 0 0x80000000 (Some 0x00500513) 0xffffffff) ≡ None
unfolding refusal
any_prediction = refl

-- ---- Decode

-- Actor 1 is not configured.
decode_by_a_stranger : turned 3 (Decode 1 0) ≡ refusal_at 3 1
unfolding refusal
decode_by_a_stranger = refl

-- Number 3 was never fetched.
decode_of_none : turned 3 (Decode 0 3) ≡ refusal_at 3 2
unfolding refusal
decode_of_none = refl

-- Number 0 is decoded already.
decode_again : turned 4 (Decode 0 0) ≡ refusal_at 4 2
unfolding refusal
decode_again = refl

-- Number 0 is older.
decode_out_of_order : turned 3 (Decode 0 1) ≡ refusal_at 3 3
unfolding refusal
decode_out_of_order = refl

-- ---- Rename

-- Actor 1 is not configured.
rename_by_a_stranger : turned 6 (Rename 1 0 (Some 31)) ≡ refusal_at 6 1
unfolding refusal
rename_by_a_stranger = refl

-- Number 3 was never fetched.
rename_of_none : turned 6 (Rename 0 3 (Some 31)) ≡ refusal_at 6 2
unfolding refusal
rename_of_none = refl

-- Number 1 is not decoded yet.
rename_undecoded : turned 4 (Rename 0 1 (Some 31)) ≡ refusal_at 4 2
unfolding refusal
rename_undecoded = refl

-- Number 0 is older.
rename_out_of_order : turned 6 (Rename 0 1 (Some 31)) ≡ refusal_at 6 3
unfolding refusal
rename_out_of_order = refl

-- ADDI with destination x10 needs a register.
rename_without_a_register : turned 6 (Rename 0 0 None) ≡ refusal_at 6 8
unfolding refusal
rename_without_a_register = refl

-- ECALL has no destination, so none is named.
rename_with_a_register_too_many : turned 8 (Rename 0 2 (Some 33)) ≡ refusal_at 8 8
unfolding refusal
rename_with_a_register_too_many = refl

-- Register 30 is the hart's x31.
rename_to_a_committed_register : turned 6 (Rename 0 0 (Some 30)) ≡ refusal_at 6 9
unfolding refusal
rename_to_a_committed_register = refl

-- Register 31 is number 0's.
rename_to_a_register_in_flight : turned 7 (Rename 0 1 (Some 31)) ≡ refusal_at 7 9
unfolding refusal
rename_to_a_register_in_flight = refl

-- There are 95 registers, 0 to 94.
rename_to_no_register : turned 6 (Rename 0 0 (Some 95)) ≡ refusal_at 6 9
unfolding refusal
rename_to_no_register = refl

-- Any free register may be named, the last one too.
any_free_register : turned 6 (Rename 0 0 (Some 94)) ≡ None
unfolding refusal
any_free_register = refl

-- ---- Issue

-- Actor 1 is not configured.
issue_by_a_stranger : turned 9 (Issue 1 0) ≡ refusal_at 9 1
unfolding refusal
issue_by_a_stranger = refl

-- The actor has the job of number 0.
issue_with_an_open_job : turned 10 (Issue 0 1) ≡ refusal_at 10 2
unfolding refusal
issue_with_an_open_job = refl

-- Number 0 is decoded and not renamed yet.
issue_unrenamed : turned 6 (Issue 0 0) ≡ refusal_at 6 3
unfolding refusal
issue_unrenamed = refl

-- Number 0 is completed.
issue_again : turned 11 (Issue 0 0) ≡ refusal_at 11 3
unfolding refusal
issue_again = refl

-- Number 3 was never fetched.
issue_of_none : turned 9 (Issue 0 3) ≡ refusal_at 9 3
unfolding refusal
issue_of_none = refl

-- ECALL waits for x17 and x10, which numbers 1 and 0 write.
issue_unready : turned 9 (Issue 0 2) ≡ refusal_at 9 5
unfolding refusal
issue_unready = refl

-- It still waits for x17 once number 0 is completed.
issue_half_ready : turned 11 (Issue 0 2) ≡ refusal_at 11 5
unfolding refusal
issue_half_ready = refl

-- Number 0 is ready too, and older.
issue_out_of_order : turned 9 (Issue 0 1) ≡ refusal_at 9 6
unfolding refusal
issue_out_of_order = refl

-- ---- Complete

-- Actor 1 is not configured.
complete_by_a_stranger : turned 10 (Complete 1 0 (outcome (Some 5) (Pc 0x80000004))) ≡ refusal_at 10 1
unfolding refusal
complete_by_a_stranger = refl

-- The actor has no open job.
complete_before_the_issue : turned 9 (Complete 0 0 (outcome (Some 5) (Pc 0x80000004))) ≡ refusal_at 9 2
unfolding refusal
complete_before_the_issue = refl

-- Its open job is number 0.
complete_of_another_job : turned 10 (Complete 0 1 (outcome (Some 0x5d) (Pc 0x80000008))) ≡ refusal_at 10 2
unfolding refusal
complete_of_another_job = refl

-- The job of number 0 is closed.
complete_again : turned 11 (Complete 0 0 (outcome (Some 5) (Pc 0x80000004))) ≡ refusal_at 11 2
unfolding refusal
complete_again = refl

-- 0 + 5 is not 6.
complete_with_another_value : turned 10 (Complete 0 0 (outcome (Some 6) (Pc 0x80000004))) ≡ refusal_at 10 4
unfolding refusal
complete_with_another_value = refl

-- ADDI gives a value.
complete_without_a_value : turned 10 (Complete 0 0 (outcome None (Pc 0x80000004))) ≡ refusal_at 10 4
unfolding refusal
complete_without_a_value = refl

-- ADDI goes on to the next word.
complete_with_another_next : turned 10 (Complete 0 0 (outcome (Some 5) (Pc 0x80000008))) ≡ refusal_at 10 4
unfolding refusal
complete_with_another_next = refl

-- ADDI does not end its hart.
complete_with_an_end : turned 10 (Complete 0 0 (outcome (Some 5) (Ended 5))) ≡ refusal_at 10 4
unfolding refusal
complete_with_an_end = refl

-- It touches no memory.
complete_with_an_address :
    turned 10 (Complete 0 0 (record (outcome (Some 5) (Pc 0x80000004)) { addr = Some 0 }))
    ≡ refusal_at 10 4
unfolding refusal
complete_with_an_address = refl

-- And hands none to memory.
complete_with_data :
    turned 10 (Complete 0 0 (record (outcome (Some 5) (Pc 0x80000004)) { datum = Some 0 }))
    ≡ refusal_at 10 4
unfolding refusal
complete_with_data = refl

-- And puts nothing out.
complete_with_output :
    turned 10 (Complete 0 0 (record (outcome (Some 5) (Pc 0x80000004)) { out = Some 5 }))
    ≡ refusal_at 10 4
unfolding refusal
complete_with_output = refl

-- The hart ends with x10, which is 5.
complete_with_another_end : turned 14 (Complete 0 2 (outcome None (Ended 0))) ≡ refusal_at 14 4
unfolding refusal
complete_with_another_end = refl

-- It ends, and does not stop.
complete_with_a_stop : turned 14 (Complete 0 2 (outcome None (Stopped 8))) ≡ refusal_at 14 4
unfolding refusal
complete_with_a_stop = refl

-- What ends its hart has no value.
complete_with_a_value_at_the_end : turned 14 (Complete 0 2 (outcome (Some 5) (Ended 5))) ≡ refusal_at 14 4
unfolding refusal
complete_with_a_value_at_the_end = refl

-- ---- Drop

-- Actor 1 is not configured.
drop_by_a_stranger : turned 10 (Drop 1 0) ≡ refusal_at 10 1
unfolding refusal
drop_by_a_stranger = refl

-- The actor has no open job.
drop_before_the_issue : turned 9 (Drop 0 0) ≡ refusal_at 9 2
unfolding refusal
drop_before_the_issue = refl

-- Its open job is number 0.
drop_of_another_job : turned 10 (Drop 0 1) ≡ refusal_at 10 2
unfolding refusal
drop_of_another_job = refl

-- Number 0 is not squashed, so it is to be completed.
drop_unsquashed : turned 10 (Drop 0 0) ≡ refusal_at 10 3
unfolding refusal
drop_unsquashed = refl

-- ---- Retire

-- Actor 1 is not configured.
retire_by_a_stranger : turned 15 (Retire 1 0 (effect (Some 5) (Pc 0x80000004))) ≡ refusal_at 15 1
unfolding refusal
retire_by_a_stranger = refl

-- Number 0 is issued and not completed yet.
retire_uncompleted : turned 10 (Retire 0 0 (effect (Some 5) (Pc 0x80000004))) ≡ refusal_at 10 2
unfolding refusal
retire_uncompleted = refl

-- Number 3 was never fetched.
retire_of_none : turned 15 (Retire 0 3 (effect None (Stopped 1))) ≡ refusal_at 15 2
unfolding refusal
retire_of_none = refl

-- Number 0 has retired.
retire_again : turned 16 (Retire 0 0 (effect (Some 5) (Pc 0x80000004))) ≡ refusal_at 16 2
unfolding refusal
retire_again = refl

-- Number 1 is completed, but number 0 is older.
retire_out_of_order : turned 15 (Retire 0 1 (effect (Some 0x5d) (Pc 0x80000008))) ≡ refusal_at 15 3
unfolding refusal
retire_out_of_order = refl

-- It retires with the value that it has computed.
retire_with_another_value : turned 15 (Retire 0 0 (effect (Some 6) (Pc 0x80000004))) ≡ refusal_at 15 4
unfolding refusal
retire_with_another_value = refl

-- And goes on where that said.
retire_with_another_next : turned 15 (Retire 0 0 (effect (Some 5) (Pc 0x80000008))) ≡ refusal_at 15 4
unfolding refusal
retire_with_another_next = refl

-- It writes no memory.
retire_with_a_write :
    turned 15 (Retire 0 0 (write (Some 5) 0x80001000 4 5 (Pc 0x80000004))) ≡ refusal_at 15 4
unfolding refusal
retire_with_a_write = refl

-- And puts nothing out.
retire_with_output :
    turned 15 (Retire 0 0 (record (effect (Some 5) (Pc 0x80000004)) { out = Some 5 }))
    ≡ refusal_at 15 4
unfolding refusal
retire_with_output = refl

-- The hart ends with 5.
retire_with_another_end : turned 17 (Retire 0 2 (effect None (Ended 6))) ≡ refusal_at 17 4
unfolding refusal
retire_with_another_end = refl

-- ---- Free choices

-- The first two renames may take 32 and 31 in place of 31 and 32: the whole run is allowed.
abbrev swapped : List Event
swapped = take 6 worked ++ Rename 0 0 (Some 32) ∷ Rename 0 1 (Some 31) ∷ drop 8 worked

-- Each of its events is allowed as it comes.
swapped_is_allowed : refusal setup swapped ≡ None
unfolding refusal
swapped_is_allowed = refl

-- It comes to the same account.
swapped_comes_to_the_same : account setup (past_of swapped) ≡ account setup (past_of worked)
swapped_comes_to_the_same = refl
