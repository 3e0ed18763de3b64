-- Accesses to memory, computed on worked histories of one hart whose numbers were found by hand: bytes, half words and
-- words, an atomic addition, and accesses that stop the hart.
use Rattle.std.specs.Prelude.{◌≡◌, ℕ, ◌+◌, ◌++◌, List, [], ◌∷◌, map, take, Option, Some, None, refl}
use Rattle.events.specs.{declared.effect.Next.TheVariants.Pc, declared.effect.Next.TheVariants.Stopped}
use Rattle.events.specs.{declared.effect.Outcome.Outcome, declared.effect.Effect.Effect, declared.event.Event.Event}
use Rattle.events.specs.declared.event.Event.TheVariants.{Fetch, Decode, Rename, Issue, Complete, Retire}
use Rattle.smt_model.specs.declared.config.Status.TheVariants as status
use Rattle.smt_model.specs.{Basics.below, Setup.Setup, Bytes.number_at, Memory.byte_at, Memory.status, Exec.next_pc}
use Rattle.smt_model.specs.{Account.committed_value}
use Rattle.smt_model.specs.Fates.{fate, Retired, Halted, Squashed}
use Rattle.worked_histories.proofs.Histories.{core, outcome, effect, access, write, past_of, turned_at, refusal}
use Rattle.worked_histories.proofs.Histories.{refusal_at, rules_of_events, standing, standing_after, order_of}

-- Hart 0's word at a pc goes the whole way, on this unit, before the next is fetched.
abbrev passes : ℕ → ℕ → ℕ → ℕ → Option ℕ → Outcome → Effect → List Event
passes unit s pc word phys o x =
    Fetch 0 0 s pc (Some word) (next_pc pc) ∷ Decode 1 s ∷ Rename 1 s phys ∷ Issue unit s ∷ Complete unit s o
    ∷ Retire 2 s x ∷ []

-- So it is with a word that computes a number on the unit for arithmetic.
abbrev gives : ℕ → ℕ → ℕ → ℕ → ℕ → List Event
gives s pc word phys n =
    passes 3 s pc word (Some phys) (outcome (Some n) (Pc (next_pc pc))) (effect (Some n) (Pc (next_pc pc)))

-- Of a load that has this number.
abbrev loads : ℕ → ℕ → ℕ → ℕ → ℕ → ℕ → List Event
loads s pc word phys addr n =
    passes 5 s pc word (Some phys) (access (Some n) addr None (Pc (next_pc pc))) (effect (Some n) (Pc (next_pc pc)))

-- Of a store of so many bytes.
abbrev stores : ℕ → ℕ → ℕ → ℕ → ℕ → ℕ → List Event
stores s pc word addr size n =
    passes 5 s pc word None (access None addr (Some n) (Pc (next_pc pc))) (write None addr size n (Pc (next_pc pc)))

-- ---- Bytes, half words and words

-- lui x6,0x80001; lui x5,0x88776; addi x5,x5,0x655; sw x5,0(x6); lb x7,3(x6); lbu x8,3(x6); lh x9,2(x6);
-- lhu x12,2(x6); lb x13,1(x6); sb x5,5(x6); sh x5,6(x6); lw x14,4(x6)
abbrev parts : Setup
parts =
    core 1 (
    0x80001337 ∷ 0x887762b7 ∷ 0x65528293 ∷ 0x00532023 ∷ 0x00330383 ∷ 0x00334403 ∷ 0x00231483 ∷ 0x00235603
    ∷ 0x00130683 ∷ 0x005302a3 ∷ 0x00531323 ∷ 0x00432703 ∷ []
    )

-- x5 is 88776655. From 80001000 its bytes are 55, 66, 77 and 88; then come 0, 55, 55 and 66.
abbrev little_endian : List Event
little_endian =
    gives 0 0x80000000 0x80001337 31 0x80001000 ++ gives 1 0x80000004 0x887762b7 32 0x88776000
    ++ gives 2 0x80000008 0x65528293 33 0x88776655 ++ stores 3 0x8000000c 0x00532023 0x80001000 4 0x88776655
    ++ loads 4 0x80000010 0x00330383 34 0x80001003 0xffffff88 ++ loads 5 0x80000014 0x00334403 35 0x80001003 0x88
    ++ loads 6 0x80000018 0x00231483 36 0x80001002 0xffff8877 ++ loads 7 0x8000001c 0x00235603 37 0x80001002 0x8877
    ++ loads 8 0x80000020 0x00130683 38 0x80001001 0x66 ++ stores 9 0x80000024 0x005302a3 0x80001005 1 0x55
    ++ stores 10 0x80000028 0x00531323 0x80001006 2 0x6655 ++ loads 11 0x8000002c 0x00432703 39 0x80001004 0x66555500

-- Each of its 72 events is allowed as it comes.
little_endian_is_allowed : refusal parts little_endian ≡ None
unfolding refusal
little_endian_is_allowed = refl

-- The eight bytes at the end.
bytes_at_the_end :
    map (λ k. byte_at parts (past_of little_endian) (0x80001000 + k)) (below 8)
    ≡ 0x55 ∷ 0x66 ∷ 0x77 ∷ 0x88 ∷ 0 ∷ 0x55 ∷ 0x55 ∷ 0x66 ∷ []
unfolding rules_of_events
bytes_at_the_end = refl

-- LB extends the sign and LBU doesn't.
no_byte_without_its_sign :
    refusal parts (turned_at 28 little_endian (Complete 5 4 (access (Some 0x88) 0x80001003 None (Pc 0x80000014))))
    ≡ refusal_at 28 4
unfolding refusal
no_byte_without_its_sign = refl

-- The bytes are not read in the other order.
no_big_endian :
    refusal parts (turned_at 46 little_endian (Complete 5 7 (access (Some 0x7788) 0x80001002 None (Pc 0x80000020))))
    ≡ refusal_at 46 4
unfolding refusal
no_big_endian = refl

-- SB has one byte of its register, not all four.
no_store_of_more :
    refusal parts (turned_at 59 little_endian (Retire 2 9 (write None 0x80001005 4 0x88776655 (Pc 0x80000028))))
    ≡ refusal_at 59 4
unfolding refusal
no_store_of_more = refl

-- The plain machine ends where the history does.
little_endian_refines :
    standing_after parts (0x80001000 ∷ 0x80001004 ∷ []) (order_of little_endian)
    ≡ Some (standing parts (0x80001000 ∷ 0x80001004 ∷ []) (past_of little_endian))
unfolding rules_of_events
little_endian_refines = refl

-- ---- An atomic addition

-- lui x6,0x80001; sw x11,0(x6); amoadd.w x5,x11,(x6); lw x7,0(x6): x11 is 1.
abbrev adder : Setup
adder = core 1 (0x80001337 ∷ 0x00b32023 ∷ 0x00b322af ∷ 0x00032383 ∷ [])

-- The atomic one gives the old word, 1, as it retires, and writes the sum, 2, which the load has.
abbrev added : List Event
added =
    gives 0 0x80000000 0x80001337 31 0x80001000 ++ stores 1 0x80000004 0x00b32023 0x80001000 4 1
    ++ passes 5 2 0x80000008 0x00b322af (Some 32) (access None 0x80001000 (Some 1) (Pc 0x8000000c))
    (write (Some 1) 0x80001000 4 2 (Pc 0x8000000c))
    ++ loads 3 0x8000000c 0x00032383 33 0x80001000 2

-- Each of its 24 events is allowed as it comes.
added_is_allowed : refusal adder added ≡ None
unfolding refusal
added_is_allowed = refl

-- It doesn't write its operand, nor give the sum.
no_swap : refusal adder (turned_at 17 added (Retire 2 2 (write (Some 1) 0x80001000 4 1 (Pc 0x8000000c))))
    ≡ refusal_at 17 4
unfolding refusal
no_swap = refl

no_new_word : refusal adder (turned_at 17 added (Retire 2 2 (write (Some 2) 0x80001000 4 2 (Pc 0x8000000c))))
    ≡ refusal_at 17 4
unfolding refusal
no_new_word = refl

-- The word is 1 before it and 2 after it; x5 is 1 and x7 is 2.
words_around_the_addition :
    map (λ n. number_at (byte_at adder (past_of (take n added))) 0x80001000 4) (17 ∷ 18 ∷ []) ≡ 1 ∷ 2 ∷ []
unfolding rules_of_events
words_around_the_addition = refl

registers_of_the_addition : map (committed_value adder (past_of added) 0) (5 ∷ 7 ∷ []) ≡ Some 1 ∷ Some 2 ∷ []
unfolding rules_of_events
registers_of_the_addition = refl

-- The plain machine ends where the history does.
added_refines :
    standing_after adder (0x80001000 ∷ []) (order_of added) ≡ Some (standing adder (0x80001000 ∷ []) (past_of added))
unfolding rules_of_events
added_refines = refl

-- ---- A misaligned load

-- lui x6,0x80001; lw x5,1(x6); addi x7,x5,1
abbrev misaligned : Setup
misaligned = core 1 (0x80001337 ∷ 0x00132283 ∷ 0x00128393 ∷ [])

-- The load stops its hart with cause 4, and number 2, fetched behind it, is squashed.
abbrev stopped_load : List Event
stopped_load =
    gives 0 0x80000000 0x80001337 31 0x80001000
    ++ Fetch 0 0 1 0x80000004 (Some 0x00132283) 0x80000008 ∷ Fetch 0 0 2 0x80000008 (Some 0x00128393) 0x8000000c
    ∷ Decode 1 1 ∷ Rename 1 1 (Some 32) ∷ Issue 5 1 ∷ Complete 5 1 (outcome None (Stopped 4))
    ∷ Retire 2 1 (effect None (Stopped 4)) ∷ []

-- Each of its 13 events is allowed as it comes.
stopped_load_is_allowed : refusal misaligned stopped_load ≡ None
unfolding refusal
stopped_load_is_allowed = refl

-- It has no number and names no address, and its cause is neither that of a store nor of a load outside RAM.
no_misaligned_number :
    refusal misaligned (turned_at 11 stopped_load (Complete 5 1 (access (Some 0) 0x80001001 None (Pc 0x80000008))))
    ≡ refusal_at 11 4
unfolding refusal
no_misaligned_number = refl

no_other_cause : refusal misaligned (turned_at 11 stopped_load (Complete 5 1 (outcome None (Stopped 5))))
    ≡ refusal_at 11 4
unfolding refusal
no_other_cause = refl

-- The hart has stopped with 4, and what was fetched behind the load is squashed.
status_of_the_load : map (λ n. status (past_of (take n stopped_load)) 0) (12 ∷ 13 ∷ [])
    ≡ status.Going ∷ status.Stopped 4 ∷ []
unfolding rules_of_events
status_of_the_load = refl

fates_around_the_stop : map (fate (past_of stopped_load)) (below 3) ≡ Retired ∷ Halted ∷ Squashed ∷ []
unfolding rules_of_events
fates_around_the_stop = refl

-- It is fetched no more.
no_fetch_after_the_stop :
    refusal misaligned (turned_at 13 stopped_load (Fetch 0 0 3 0x8000000c None 0x80000010)) ≡ refusal_at 13 2
unfolding refusal
no_fetch_after_the_stop = refl

-- The plain machine ends where the history does, x5 unchanged.
stopped_load_refines :
    standing_after misaligned [] (order_of stopped_load) ≡ Some (standing misaligned [] (past_of stopped_load))
unfolding rules_of_events
stopped_load_refines = refl

-- ---- A store into the code

-- lui x6,0x80000; sw x11,0(x6)
abbrev overwriter : Setup
overwriter = core 1 (0x80000337 ∷ 0x00b32023 ∷ [])

-- The store stops its hart with cause 7.
abbrev stopped_store : List Event
stopped_store =
    gives 0 0x80000000 0x80000337 31 0x80000000
    ++ passes 5 1 0x80000004 0x00b32023 None (outcome None (Stopped 7)) (effect None (Stopped 7))

-- Each of its 12 events is allowed as it comes.
stopped_store_is_allowed : refusal overwriter stopped_store ≡ None
unfolding refusal
stopped_store_is_allowed = refl

-- It doesn't go on, and as it retires it writes nothing.
no_write_into_the_code :
    refusal overwriter (turned_at 10 stopped_store (Complete 5 1 (access None 0x80000000 (Some 1) (Pc 0x80000008))))
    ≡ refusal_at 10 4
unfolding refusal
no_write_into_the_code = refl

no_write_as_it_stops :
    refusal overwriter (turned_at 11 stopped_store (Retire 2 1 (write None 0x80000000 4 1 (Stopped 7))))
    ≡ refusal_at 11 4
unfolding refusal
no_write_as_it_stops = refl

-- The hart has stopped with 7, and the code is what it was.
status_of_the_store : status (past_of stopped_store) 0 ≡ status.Stopped 7
unfolding rules_of_events
status_of_the_store = refl

code_after_the_store : number_at (byte_at overwriter (past_of stopped_store)) 0x80000000 4 ≡ 0x80000337
unfolding rules_of_events
code_after_the_store = refl

-- The plain machine ends where the history does.
stopped_store_refines :
    standing_after overwriter (0x80000000 ∷ []) (order_of stopped_store)
    ≡ Some (standing overwriter (0x80000000 ∷ []) (past_of stopped_store))
unfolding rules_of_events
stopped_store_refines = refl
