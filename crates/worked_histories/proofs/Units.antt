-- Which instruction a unit may issue, computed on worked histories: their numbers were found by hand. The actors are
-- 0, 1 and 2 for fetching, the front and retiring, and the units 3 for arithmetic, 4 for products and 5 for memory.
use Rattle.std.specs.Prelude.{◌≡◌, ℕ, true, false, List, [], ◌∷◌, map, take, Option, Some, None, refl}
use Rattle.events.specs.{declared.effect.Next.TheVariants.Pc, declared.event.Event.Event}
use Rattle.events.specs.declared.event.Event.TheVariants.{Fetch, Decode, Rename, Issue, Complete}
use Rattle.events.specs.declared.role.Role.TheVariants as role
use Rattle.smt_model.specs.{Setup.Setup, Registers.is_ready}
use Rattle.worked_histories.proofs.Histories.{core, one_word, outcome, past_of, turned_at, Refusal, refusal, refusal_at}
use Rattle.worked_histories.proofs.Histories.{rules_of_events}

-- ---- Each kind of unit has its own instructions

-- The first refusal where one hart's first word, which has no destination or the one given, is issued by this actor.
abbrev issued_by : ℕ → ℕ → Option ℕ → Option Refusal
issued_by actor word phys =
    refusal (one_word word) (
    Fetch 0 0 0 0x80000000 (Some word) 0x80000004 ∷ Decode 1 0 ∷ Rename 1 0 phys ∷ Issue actor 0 ∷ []
    )

-- The three units in turn, and then an actor that is none.
abbrev issued_by_each : ℕ → Option ℕ → List (Option Refusal)
issued_by_each word phys = map (λ actor. issued_by actor word phys) (3 ∷ 4 ∷ 5 ∷ 0 ∷ [])

abbrev for_arithmetic : List (Option Refusal)
for_arithmetic = None ∷ refusal_at 3 4 ∷ refusal_at 3 4 ∷ refusal_at 3 2 ∷ []

abbrev for_products : List (Option Refusal)
for_products = refusal_at 3 4 ∷ None ∷ refusal_at 3 4 ∷ refusal_at 3 2 ∷ []

abbrev for_memory : List (Option Refusal)
for_memory = refusal_at 3 4 ∷ refusal_at 3 4 ∷ None ∷ refusal_at 3 2 ∷ []

-- addi x5,x0,7
additions : issued_by_each 0x00700293 (Some 31) ≡ for_arithmetic
unfolding refusal
additions = refl

-- bne x10,x0
branches : issued_by_each 0x00051863 None ≡ for_arithmetic
unfolding refusal
branches = refl

-- jal x5
jumps : issued_by_each 0x002002ef (Some 31) ≡ for_arithmetic
unfolding refusal
jumps = refl

-- fence
fences : issued_by_each 0x0ff0000f None ≡ for_arithmetic
unfolding refusal
fences = refl

-- ecall
calls : issued_by_each 0x00000073 None ≡ for_arithmetic
unfolding refusal
calls = refl

-- A word that is no instruction goes to arithmetic too.
illegal_words : issued_by_each 0xffffffff None ≡ for_arithmetic
unfolding refusal
illegal_words = refl

-- mul x7,x5,x5
products : issued_by_each 0x025283b3 (Some 31) ≡ for_products
unfolding refusal
products = refl

-- remu x5,x6,x7
remainders : issued_by_each 0x027372b3 (Some 31) ≡ for_products
unfolding refusal
remainders = refl

-- lw x5,0(x6)
loads : issued_by_each 0x00032283 (Some 31) ≡ for_memory
unfolding refusal
loads = refl

-- sw x5,0(x6)
stores : issued_by_each 0x00532023 None ≡ for_memory
unfolding refusal
stores = refl

-- lr.w x5,(x6)
reservations : issued_by_each 0x100322af (Some 31) ≡ for_memory
unfolding refusal
reservations = refl

-- sc.w x7,x10,(x6)
conditionals : issued_by_each 0x18a323af (Some 31) ≡ for_memory
unfolding refusal
conditionals = refl

-- amoadd.w x0,x5,(x6)
atomics : issued_by_each 0x0053202f None ≡ for_memory
unfolding refusal
atomics = refl

-- ---- The oldest that is ready

-- addi x5,x0,1; addi x6,x5,1; addi x7,x0,2; mul x8,x5,x5; mul x9,x0,x0: on one hart, with actor 6 a second unit for
-- arithmetic.
abbrev chain : Setup
chain = record (core 1 (0x00100293 ∷ 0x00128313 ∷ 0x00200393 ∷ 0x02528433 ∷ 0x020004b3 ∷ [])) {
  roles = role.Fetch ∷ role.Front ∷ role.Retire ∷ role.Alu ∷ role.Mul ∷ role.Mem ∷ role.Alu ∷ [];
}

-- All five are renamed, and number 0 is issued.
abbrev chained : List Event
chained =
    Fetch 0 0 0 0x80000000 (Some 0x00100293) 0x80000004 ∷ Fetch 0 0 1 0x80000004 (Some 0x00128313) 0x80000008
    ∷ Fetch 0 0 2 0x80000008 (Some 0x00200393) 0x8000000c ∷ Fetch 0 0 3 0x8000000c (Some 0x02528433) 0x80000010
    ∷ Fetch 0 0 4 0x80000010 (Some 0x020004b3) 0x80000014
    ∷ Decode 1 0 ∷ Decode 1 1 ∷ Decode 1 2 ∷ Decode 1 3 ∷ Decode 1 4
    ∷ Rename 1 0 (Some 31) ∷ Rename 1 1 (Some 32) ∷ Rename 1 2 (Some 33) ∷ Rename 1 3 (Some 34) ∷ Rename 1 4 (Some 35)
    ∷ Issue 3 0 ∷ Complete 3 0 (outcome (Some 1) (Pc 0x80000004)) ∷ []

-- Each of its events is allowed as it comes.
chained_is_allowed : refusal chain chained ≡ None
unfolding refusal
chained_is_allowed = refl

-- Number 1 waits for number 0, and does not hold up number 2, which waits for nothing.
passing_one_that_waits : refusal chain (turned_at 16 chained (Issue 6 2)) ≡ None
unfolding refusal
passing_one_that_waits = refl

-- Number 1 itself is not issued.
one_that_waits : refusal chain (turned_at 16 chained (Issue 6 1)) ≡ refusal_at 16 5
unfolding refusal
one_that_waits = refl

-- The unit for products takes number 4: number 3 waits for number 0, and numbers 1 and 2 are not of its kind.
products_pass : refusal chain (turned_at 16 chained (Issue 4 4)) ≡ None
unfolding refusal
products_pass = refl

-- Once number 0 is completed all are ready.
ready_before_and_after :
    map (λ n. map (is_ready chain (past_of (take n chained))) (1 ∷ 2 ∷ 3 ∷ 4 ∷ [])) (16 ∷ 17 ∷ [])
    ≡ (false ∷ true ∷ false ∷ true ∷ []) ∷ (true ∷ true ∷ true ∷ true ∷ []) ∷ []
unfolding rules_of_events
ready_before_and_after = refl

-- The oldest sum is number 1,
oldest_sum : refusal chain (turned_at 17 chained (Issue 6 1)) ≡ None
unfolding refusal
oldest_sum = refl

-- and not number 2.
not_a_younger_sum : refusal chain (turned_at 17 chained (Issue 6 2)) ≡ refusal_at 17 6
unfolding refusal
not_a_younger_sum = refl

-- The oldest product is number 3,
oldest_product : refusal chain (turned_at 17 chained (Issue 4 3)) ≡ None
unfolding refusal
oldest_product = refl

-- and not number 4.
not_a_younger_product : refusal chain (turned_at 17 chained (Issue 4 4)) ≡ refusal_at 17 6
unfolding refusal
not_a_younger_product = refl

-- The oldest is that of all harts: hart 0's number 0 goes before hart 1's number 1.
abbrev two_harts : List Event
two_harts =
    Fetch 0 0 0 0x80000000 (Some 0x00100293) 0x80000004 ∷ Fetch 0 1 1 0x80000000 (Some 0x00100293) 0x80000004
    ∷ Decode 1 1 ∷ Rename 1 1 (Some 62) ∷ Decode 1 0 ∷ Rename 1 0 (Some 63) ∷ Issue 3 0 ∷ []

-- Hart 0's is issued.
older_of_another_hart : refusal (core 2 (0x00100293 ∷ [])) two_harts ≡ None
unfolding refusal
older_of_another_hart = refl

-- Hart 1's is not.
not_the_younger_one :
    refusal (core 2 (0x00100293 ∷ [])) (turned_at 6 two_harts (Issue 3 1)) ≡ refusal_at 6 6
unfolding refusal
not_the_younger_one = refl

-- But an older one that isn't renamed yet does not count.
before_the_older_is_renamed : refusal (core 2 (0x00100293 ∷ [])) (turned_at 4 two_harts (Issue 3 1)) ≡ None
unfolding refusal
before_the_older_is_renamed = refl

-- ---- Both sources are waited for

-- addi x5,x0,1; sw x5,0(x6): the store, number 1, waits for what it stores, though its address is there.
abbrev stored : List Event
stored =
    Fetch 0 0 0 0x80000000 (Some 0x00100293) 0x80000004 ∷ Fetch 0 0 1 0x80000004 (Some 0x00532023) 0x80000008
    ∷ Decode 1 0 ∷ Decode 1 1 ∷ Rename 1 0 (Some 31) ∷ Rename 1 1 None
    ∷ Issue 3 0 ∷ Complete 3 0 (outcome (Some 1) (Pc 0x80000004)) ∷ Issue 5 1 ∷ []

-- Each of its events is allowed as it comes.
stored_is_allowed : refusal (core 1 (0x00100293 ∷ 0x00532023 ∷ [])) stored ≡ None
unfolding refusal
stored_is_allowed = refl

-- The store is not issued before.
store_waits :
    map (λ n. refusal (core 1 (0x00100293 ∷ 0x00532023 ∷ [])) (turned_at n stored (Issue 5 1))) (6 ∷ 7 ∷ [])
    ≡ refusal_at 6 5 ∷ refusal_at 7 5 ∷ []
unfolding refusal
store_waits = refl
