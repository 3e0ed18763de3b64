-- Which hart is fetched, computed on worked histories: their numbers were found by hand. The program is four words
-- that do nothing, `addi x0,x0,0`; behind them there is no word.
use Rattle.std.specs.Prelude.{◌≡◌, ℕ, zero, suc, ◌+◌, ◌*◌, nat_lt, if◌then◌else◌, List, [], ◌∷◌, ◌++◌, map, take}
use Rattle.std.specs.Prelude.{replicate, Some, None, refl}
use Rattle.events.specs.{declared.effect.Next.TheVariants.Stopped, declared.event.Event.Event}
use Rattle.events.specs.declared.event.Event.TheVariants.{Fetch, Decode, Rename, Issue, Complete, Retire}
use Rattle.smt_model.specs.declared.config.Status.TheVariants as status
use Rattle.smt_model.specs.{Basics.below, Setup.Setup, Flights.icount, Fetching.choice, Fetching.turn, Account.account}
use Rattle.smt_model.specs.{Account.event_count, Account.last_event_of}
use Rattle.worked_histories.proofs.Histories.{core, outcome, effect, past_of, turned_at, refusal, refusal_at}
use Rattle.worked_histories.proofs.Histories.{rules_of_events, standing, standing_after}

abbrev nothing : List ℕ
nothing = 0x00000013 ∷ 0x00000013 ∷ 0x00000013 ∷ 0x00000013 ∷ []

-- A hart's fetch of the k-th word, as number s, by actor 0.
abbrev fetch : ℕ → ℕ → ℕ → Event
fetch hart s k = Fetch 0 hart s (0x80000000 + 4 * k) (if nat_lt k 4 then Some 0x00000013 else None) (0x80000004 + 4 * k)

-- ---- Three harts: the fewest in decode, rename and queue, and of equals the first after the one that was fetched last

abbrev three : Setup
three = core 3 nothing

-- Harts 0, 1, 2 and 0 again are fetched; one of hart 1 issues; then harts 1 and 2 are fetched.
abbrev in_turn : List Event
in_turn =
    fetch 0 0 0 ∷ fetch 1 1 0 ∷ fetch 2 2 0 ∷ fetch 0 3 1
    ∷ Decode 1 1 ∷ Rename 1 1 None ∷ Issue 3 1
    ∷ fetch 1 4 1 ∷ fetch 2 5 1 ∷ []

-- Each of its events is allowed as it comes.
in_turn_is_allowed : refusal three in_turn ≡ None
unfolding refusal
in_turn_is_allowed = refl

-- Nothing has retired, all harts are going, and the job is out.
account_in_turn :
    account three (past_of in_turn)
    ≡ record { records = []; output = []; statuses = replicate 3 status.Going; lent = 1; events = 9 }
account_in_turn = refl

-- How many of the events each actor made.
made_in_turn : map (λ k. event_count k (past_of in_turn)) (below 6) ≡ 6 ∷ 2 ∷ 0 ∷ 1 ∷ 0 ∷ 0 ∷ []
made_in_turn = refl

-- The last event of the unit for arithmetic, and of the actor that retires, which made none.
last_in_turn : last_event_of 3 (past_of in_turn) ∷ last_event_of 2 (past_of in_turn) ∷ [] ≡ Some (Issue 3 1) ∷ None ∷ []
last_in_turn = refl

-- Before the fifth fetch hart 0 has two, hart 1 none and hart 2 one.
counters_before_the_fifth : map (icount (past_of (take 7 in_turn))) (below 3) ≡ 2 ∷ 0 ∷ 1 ∷ []
unfolding rules_of_events
counters_before_the_fifth = refl

-- Before the sixth harts 1 and 2 have one, and hart 1 was fetched last.
counters_before_the_sixth : map (icount (past_of (take 8 in_turn))) (below 3) ≡ 2 ∷ 1 ∷ 1 ∷ []
unfolding rules_of_events
counters_before_the_sixth = refl

-- Before any fetch hart 0 is first.
not_hart_1_first : refusal three (turned_at 0 in_turn (fetch 1 0 0)) ≡ refusal_at 0 2
unfolding refusal
not_hart_1_first = refl

-- After hart 0 not hart 0 again, though it is the lowest of equals: hart 1 has fewer.
not_hart_0_twice : refusal three (turned_at 1 in_turn (fetch 0 1 1)) ≡ refusal_at 1 2
unfolding refusal
not_hart_0_twice = refl

-- After harts 0, 1 and 2, each with one, going round not hart 1.
not_hart_1_after_2 : refusal three (turned_at 3 in_turn (fetch 1 3 1)) ≡ refusal_at 3 2
unfolding refusal
not_hart_1_after_2 = refl

-- Hart 1 has issued, so it has fewer than hart 2, which is next in turn after hart 0 and 1.
not_hart_2_yet : refusal three (turned_at 7 in_turn (fetch 2 4 1)) ≡ refusal_at 7 2
unfolding refusal
not_hart_2_yet = refl

-- Of the equals 1 and 2 it is the first after hart 1, and not the lowest.
not_the_lowest : refusal three (turned_at 8 in_turn (fetch 1 5 2)) ≡ refusal_at 8 2
unfolding refusal
not_the_lowest = refl

-- The last fetched hart is the last in turn.
turn_after_hart_1 : turn 4 (Some 1) ≡ 2 ∷ 3 ∷ 0 ∷ 1 ∷ []
turn_after_hart_1 = refl

-- ---- A full decode latch takes a hart out of the choice

abbrev two : Setup
two = core 2 nothing

-- n fetches of each hart.
abbrev both_fetch : ℕ → List Event
both_fetch zero = []
both_fetch (suc k) = both_fetch k ++ fetch 0 (2 * k) k ∷ fetch 1 (2 * k + 1) k ∷ []

-- Eight of each are allowed, in turn.
eight_each : refusal two (both_fetch 8) ≡ None
unfolding refusal
eight_each = refl

-- Then there is no hart to fetch.
no_choice : choice two (past_of (both_fetch 8)) ≡ None
unfolding rules_of_events
no_choice = refl

-- Neither hart 0 is fetched once more,
no_seventeenth_of_hart_0 : refusal two (turned_at 16 (both_fetch 8) (fetch 0 16 8)) ≡ refusal_at 16 2
unfolding refusal
no_seventeenth_of_hart_0 = refl

-- nor hart 1.
no_seventeenth_of_hart_1 : refusal two (turned_at 16 (both_fetch 8) (fetch 1 16 8)) ≡ refusal_at 16 2
unfolding refusal
no_seventeenth_of_hart_1 = refl

-- The eight of hart 1 are decoded. Now it alone has room, and is fetched twice, though its counter is the higher one.
abbrev past_the_latch : List Event
past_the_latch = both_fetch 8 ++ map (λ k. Decode 1 (2 * k + 1)) (below 8) ++ fetch 1 16 8 ∷ fetch 1 17 9 ∷ []

-- Each of its events is allowed as it comes.
past_the_latch_is_allowed : refusal two past_the_latch ≡ None
unfolding refusal
past_the_latch_is_allowed = refl

-- Hart 0 has 8 in decode, rename and queue, hart 1 has 10.
counters_past_the_latch : map (icount (past_of past_the_latch)) (below 2) ≡ 8 ∷ 10 ∷ []
unfolding rules_of_events
counters_past_the_latch = refl

-- Still hart 1 is the one to fetch.
choice_past_the_latch : choice two (past_of past_the_latch) ≡ Some 1
unfolding rules_of_events
choice_past_the_latch = refl

-- Its rename latch has eight, so no more of it is decoded.
full_rename_latch : refusal two (turned_at 26 past_the_latch (Decode 1 16)) ≡ refusal_at 26 4
unfolding refusal
full_rename_latch = refl

-- Hart 0's has room.
room_in_the_other : refusal two (turned_at 26 past_the_latch (Decode 1 0)) ≡ None
unfolding refusal
room_in_the_other = refl

-- ---- Harts that have stopped

-- One word that is no instruction, on three harts.
abbrev illegal : Setup
illegal = core 3 (0x00000000 ∷ [])

-- Harts 0 and 1 execute it, and hart 1 stops.
abbrev one_stops : List Event
one_stops =
    Fetch 0 0 0 0x80000000 (Some 0) 0x80000004 ∷ Fetch 0 1 1 0x80000000 (Some 0) 0x80000004
    ∷ Decode 1 0 ∷ Decode 1 1 ∷ Rename 1 0 None ∷ Rename 1 1 None
    ∷ Issue 3 0 ∷ Complete 3 0 (outcome None (Stopped 2))
    ∷ Issue 3 1 ∷ Complete 3 1 (outcome None (Stopped 2))
    ∷ Retire 2 1 (effect None (Stopped 2)) ∷ []

-- Each of its events is allowed as it comes.
one_stops_is_allowed : refusal illegal one_stops ≡ None
unfolding refusal
one_stops_is_allowed = refl

-- The plain machine, run for one instruction of hart 1, ends where it does.
one_stops_refines : standing_after illegal [] (1 ∷ []) ≡ Some (standing illegal [] (past_of one_stops))
unfolding rules_of_events
one_stops_refines = refl

-- A hart stops as it retires what stops it, not as that completes.
statuses_after_the_stop :
    (account illegal (past_of one_stops)).statuses ≡ status.Going ∷ status.Stopped 2 ∷ status.Going ∷ []
statuses_after_the_stop = refl

-- All counters are 0. Hart 1 was fetched last, and the turn goes on behind it although it has stopped.
choice_after_the_stop : choice illegal (past_of one_stops) ≡ Some 2
unfolding rules_of_events
choice_after_the_stop = refl

-- The stopped hart is not fetched.
no_fetch_of_the_stopped :
    refusal illegal (turned_at 11 one_stops (Fetch 0 1 2 0x80000004 None 0x80000008)) ≡ refusal_at 11 2
unfolding refusal
no_fetch_of_the_stopped = refl

-- Harts 2 and 0 are fetched, and are equal then. Hart 1 comes after hart 0, but has stopped.
abbrev two_go_on : List Event
two_go_on =
    one_stops ++ Fetch 0 2 2 0x80000000 (Some 0) 0x80000004 ∷ Fetch 0 0 3 0x80000004 None 0x80000008 ∷ []

-- Each of its events is allowed as it comes.
two_go_on_is_allowed : refusal illegal two_go_on ≡ None
unfolding refusal
two_go_on_is_allowed = refl

-- After hart 0 comes hart 2.
hart_1_is_passed_over : choice illegal (past_of two_go_on) ≡ Some 2
unfolding rules_of_events
hart_1_is_passed_over = refl
