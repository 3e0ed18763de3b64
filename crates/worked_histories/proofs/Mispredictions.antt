-- Accesses outside RAM, and jumps and branches that go elsewhere than was predicted, computed on worked
-- histories: their
-- numbers were found by hand.
use Rattle.std.specs.Prelude.{◌≡◌, ℕ, true, false, List, [], ◌∷◌, map, take, replicate, Option, Some, None, refl}
use Rattle.events.specs.{declared.effect.Next.TheVariants.Pc, declared.effect.Next.TheVariants.Stopped}
use Rattle.events.specs.{declared.event.Event.Event}
use Rattle.events.specs.declared.event.Event.TheVariants.{Fetch, Decode, Rename, Issue, Complete, Drop, Retire}
use Rattle.smt_model.specs.declared.config.Status.TheVariants as status
use Rattle.smt_model.specs.{Basics.below, Setup.Setup, Flights.icount, Flights.live, Fetching.fetch_pc}
use Rattle.smt_model.specs.{Registers.is_unclaimed, Registers.value, Account.account, Account.committed_value}
use Rattle.worked_histories.proofs.Histories.{core, one_word, outcome, effect, past_of, turned_at, refusal}
use Rattle.worked_histories.proofs.Histories.{refusal_at, rules_of_events, standing, standing_after}

-- ---- An access at 0, which is outside RAM: with a register of its own or none, one hart's first word stops its hart

abbrev stops : ℕ → Option ℕ → ℕ → List Event
stops word phys cause =
    Fetch 0 0 0 0x80000000 (Some word) 0x80000004 ∷ Decode 1 0 ∷ Rename 1 0 phys ∷ Issue 5 0
    ∷ Complete 5 0 (outcome None (Stopped cause)) ∷ Retire 2 0 (effect None (Stopped cause)) ∷ []

-- lw x5,0(x6); lr.w x5,(x6)
abbrev reads : List ℕ
reads = 0x00032283 ∷ 0x100322af ∷ []

-- sc.w x5,x7,(x6); amoadd.w x5,x7,(x6)
abbrev writes : List ℕ
writes = 0x187322af ∷ 0x007322af ∷ []

reads_stop_with_5 : map (λ word. refusal (one_word word) (stops word (Some 31) 5)) reads ≡ replicate 2 None
unfolding refusal
reads_stop_with_5 = refl

writes_stop_with_7 : map (λ word. refusal (one_word word) (stops word (Some 31) 7)) writes ≡ replicate 2 None
unfolding refusal
writes_stop_with_7 = refl

-- sw x5,0(x6)
store_stops_with_7 : refusal (one_word 0x00532023) (stops 0x00532023 None 7) ≡ None
unfolding refusal
store_stops_with_7 = refl

-- The plain machine stops there too.
stops_refine :
    map (λ word. standing_after (one_word word) [] (0 ∷ [])) (0x00032283 ∷ 0x187322af ∷ [])
    ≡ Some (standing (one_word 0x00032283) [] (past_of (stops 0x00032283 (Some 31) 5)))
    ∷ Some (standing (one_word 0x187322af) [] (past_of (stops 0x187322af (Some 31) 7))) ∷ []
unfolding rules_of_events
stops_refine = refl

-- It is no illegal word: none of them stops with 2.
access_is_an_instruction :
    map (λ word. refusal (one_word word) (stops word (Some 31) 2)) (0x00032283 ∷ 0x100322af ∷ 0x187322af ∷
    0x007322af ∷ [])
    ≡ replicate 4 (refusal_at 4 4)
unfolding refusal
access_is_an_instruction = refl

-- ---- A jump to a half word: jal x5,2, well predicted

abbrev mispredicted_next : List Event
mispredicted_next =
    Fetch 0 0 0 0x80000000 (Some 0x002002ef) 0x80000002 ∷ Decode 1 0 ∷ Rename 1 0 (Some 31) ∷ Issue 3 0
    ∷ Complete 3 0 (outcome None (Stopped 0)) ∷ Retire 2 0 (effect None (Stopped 0)) ∷ []

-- Each of its events is allowed as it comes.
misprediction_is_allowed : refusal (one_word 0x002002ef) mispredicted_next ≡ None
unfolding refusal
misprediction_is_allowed = refl

-- The plain machine stops there too.
misprediction_refines : standing_after (one_word 0x002002ef) [] (0 ∷ [])
    ≡ Some (standing (one_word 0x002002ef) [] (past_of mispredicted_next))
unfolding rules_of_events
misprediction_refines = refl

-- The link isn't written, and its register is free again.
misprediction_commits_nothing : committed_value (one_word 0x002002ef) (past_of mispredicted_next) 0 5 ≡ Some 0
unfolding rules_of_events
misprediction_commits_nothing = refl

misprediction_frees_its_register : map (λ n. is_unclaimed (one_word 0x002002ef) (past_of (take n mispredicted_next)) 31)
    (5 ∷ 6 ∷ []) ≡ false ∷ true ∷ []
unfolding rules_of_events
misprediction_frees_its_register = refl

-- It does not go on with the link, nor stop with it.
misprediction_gives_nothing :
    refusal (one_word 0x002002ef) (turned_at 4 mispredicted_next (Complete 3 0 (outcome (Some 0x80000004) (Stopped 0))))
    ∷ refusal (one_word 0x002002ef)
    (turned_at 4 mispredicted_next (Complete 3 0 (outcome (Some 0x80000004) (Pc 0x80000002)))) ∷ []
    ≡ refusal_at 4 4 ∷ refusal_at 4 4 ∷ []
unfolding refusal
misprediction_gives_nothing = refl

-- ---- A branch that is taken and was not predicted so. Two harts: addi x5,x0,3; beq x0,x0,0x8000000c; mul x7,x5,x5;
-- addi x8,x0,9; ebreak

abbrev branching : Setup
branching = core 2 (0x00300293 ∷ 0x00000463 ∷ 0x025283b3 ∷ 0x00900413 ∷ 0x00100073 ∷ [])

-- Hart 0's product, number 4, is out as its branch, number 2, completes. Its register, 63, is named anew by hart 1's
-- number 1.
abbrev branched : List Event
branched =
    Fetch 0 0 0 0x80000000 (Some 0x00300293) 0x80000004 ∷ Fetch 0 1 1 0x80000000 (Some 0x00300293) 0x80000004
    ∷ Fetch 0 0 2 0x80000004 (Some 0x00000463) 0x80000008 ∷ Fetch 0 1 3 0x80000004 (Some 0x00000463) 0x80000008
    ∷ Fetch 0 0 4 0x80000008 (Some 0x025283b3) 0x8000000c ∷ Fetch 0 1 5 0x80000008 (Some 0x025283b3) 0x8000000c
    ∷ Decode 1 0 ∷ Decode 1 2 ∷ Decode 1 4
    ∷ Rename 1 0 (Some 62) ∷ Rename 1 2 None ∷ Rename 1 4 (Some 63)
    ∷ Issue 3 0 ∷ Complete 3 0 (outcome (Some 3) (Pc 0x80000004))
    ∷ Issue 4 4 ∷ Issue 3 2 ∷ Complete 3 2 (outcome None (Pc 0x8000000c))
    ∷ Decode 1 1 ∷ Rename 1 1 (Some 63)
    ∷ Issue 3 1 ∷ Complete 3 1 (outcome (Some 3) (Pc 0x80000004)) ∷ Drop 4 4 ∷ []

-- Each of its events is allowed as it comes.
branched_is_allowed : refusal branching branched ≡ None
unfolding refusal
branched_is_allowed = refl

-- Nothing has retired, both harts are going, and no job is out.
branched_account :
    account branching (past_of branched)
    ≡ record { records = []; output = []; statuses = replicate 2 status.Going; lent = 0; events = 22 }
branched_account = refl

-- Register 63 holds hart 1's 3, before and after the late product is dropped.
value_of_63 : map (λ n. value branching (past_of (take n branched)) 63) (19 ∷ 21 ∷ 22 ∷ [])
    ≡ None ∷ Some 3 ∷ Some 3 ∷ []
unfolding rules_of_events
value_of_63 = refl

-- Hart 0 has its sum and its branch on the way, hart 1 all three.
branched_lives : map (live (past_of branched)) (below 2) ≡ (0 ∷ 2 ∷ []) ∷ (1 ∷ 3 ∷ 5 ∷ []) ∷ []
unfolding rules_of_events
branched_lives = refl

-- Two of hart 1 are in decode, and hart 0 has nothing in decode, rename and queue.
branched_counters : map (icount (past_of branched)) (below 2) ≡ 0 ∷ 2 ∷ []
unfolding rules_of_events
branched_counters = refl

-- Hart 0 goes on where the branch leads, and hart 1 where it was: the fourth word, for both.
branched_pcs : map (fetch_pc branching (past_of branched)) (below 2) ≡ 0x8000000c ∷ 0x8000000c ∷ []
unfolding rules_of_events
branched_pcs = refl

-- Before the completion hart 0 had the product too.
before_the_branch : map (live (past_of (take 16 branched))) (below 2) ≡ (0 ∷ 2 ∷ 4 ∷ []) ∷ (1 ∷ 3 ∷ 5 ∷ []) ∷ []
unfolding rules_of_events
before_the_branch = refl

-- The branch does not go on where it was predicted to.
not_as_predicted : refusal branching (turned_at 16 branched (Complete 3 2 (outcome None (Pc 0x80000008))))
    ≡ refusal_at 16 4
unfolding refusal
not_as_predicted = refl

-- The late product is not completed.
not_completed_late : refusal branching (turned_at 21 branched (Complete 4 4 (outcome (Some 9) (Pc 0x8000000c))))
    ≡ refusal_at 21 3
unfolding refusal
not_completed_late = refl
