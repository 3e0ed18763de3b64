-- Which loads have to look again, computed on worked histories whose numbers were found by hand: a write touches the
-- loads that it shares a byte with, of whatever hart and whatever address they begin at.
use Rattle.std.specs.Prelude.{◌≡◌, ℕ, true, false, ◌∷◌, List, [], map, take, Some, None, refl}
use Rattle.events.specs.{declared.effect.Next.TheVariants.Pc, declared.effect.Next.TheVariants.Stopped}
use Rattle.events.specs.{declared.effect.Effect.Effect}
use Rattle.events.specs.declared.event.Event.{Event}
use Rattle.events.specs.declared.event.Event.TheVariants.{Fetch, Decode, Rename, Issue, Complete, Retire}
use Rattle.rv_instr.specs.Decode.{op_of_word}
use Rattle.smt_model.specs.{Setup.Setup, Touched.shares_byte, Touched.is_touched, Touched.loads, Touched.looks}
use Rattle.smt_model.specs.{Touched.gives_loaded}
use Rattle.worked_histories.proofs.Histories.{core, outcome, effect, access, write, past_of, refusal, rules_of_events}

-- ---- Bytes that two accesses share: the word at 8 has those from 8 to 11.

with_the_word :
    shares_byte 8 4 8 4 ∷ shares_byte 8 4 10 2 ∷ shares_byte 11 1 8 4 ∷ shares_byte 6 4 8 4 ∷ []
    ≡ true ∷ true ∷ true ∷ true ∷ []
with_the_word = refl

without_it :
    shares_byte 8 4 12 4 ∷ shares_byte 4 4 8 4 ∷ shares_byte 7 1 8 4 ∷ shares_byte 9 0 8 4 ∷ shares_byte 8 4 9 0 ∷ []
    ≡ false ∷ false ∷ false ∷ false ∷ false ∷ []
without_it = refl

-- ---- Which retirements give a register what was loaded

-- lw x5,0(x6) and lb x5,0(x6) do. lw x0,0(x6), sw x7,0(x6), lr.w x5,(x6), amoadd.w x5,x7,(x6) and addi x7,x5,1 don't.
who_counts :
    map (λ word. gives_loaded (op_of_word (Some word)) (effect (Some 9) (Pc 0x80000004))) (
    0x00032283 ∷ 0x00030283 ∷ 0x00032003 ∷ 0x00732023 ∷ 0x100322af ∷ 0x007322af ∷ 0x00128393 ∷ []
    )
    ≡ true ∷ true ∷ false ∷ false ∷ false ∷ false ∷ false ∷ []
unfolding rules_of_events
who_counts = refl

-- Nor does lw x5,0(x6) where it stops.
who_stops : gives_loaded (op_of_word (Some 0x00032283)) (effect None (Stopped 5)) ≡ false
unfolding rules_of_events
who_stops = refl

-- ---- Three loads of one hart, and a write of another

-- lui x6,0x80001; bne x10,x0,16; lb x5,0(x6); lbu x7,1(x6); lh x12,0(x6); and a word that writes: on two harts. Hart 0
-- loads, hart 1 jumps to the last.
abbrev two : ℕ → Setup
two word =
    core 2 (0x80001337 ∷ 0x00051863 ∷ 0x00030283 ∷ 0x00134383 ∷ 0x00031603 ∷ word ∷ [])

-- Hart 0 has numbers 0, 2, 4, 6 and 8, hart 1 has 1, 3, 5 and 7. Number 5 is the last word; it has an address and
-- stores 0, and retires with this effect while all three loads have completed with 0.
abbrev before : ℕ → ℕ → Effect → List Event
before word addr x =
    Fetch 0 0 0 0x80000000 (Some 0x80001337) 0x80000004 ∷ Fetch 0 1 1 0x80000000 (Some 0x80001337) 0x80000004
    ∷ Fetch 0 0 2 0x80000004 (Some 0x00051863) 0x80000008 ∷ Fetch 0 1 3 0x80000004 (Some 0x00051863) 0x80000014
    ∷ Fetch 0 0 4 0x80000008 (Some 0x00030283) 0x8000000c ∷ Fetch 0 1 5 0x80000014 (Some word) 0x80000018
    ∷ Fetch 0 0 6 0x8000000c (Some 0x00134383) 0x80000010 ∷ Fetch 0 1 7 0x80000018 None 0x8000001c
    ∷ Fetch 0 0 8 0x80000010 (Some 0x00031603) 0x80000014
    ∷ Decode 1 0 ∷ Decode 1 1 ∷ Decode 1 2 ∷ Decode 1 3 ∷ Decode 1 4 ∷ Decode 1 5 ∷ Decode 1 6 ∷ Decode 1 8
    ∷ Rename 1 0 (Some 62) ∷ Rename 1 1 (Some 63) ∷ Rename 1 2 None ∷ Rename 1 3 None
    ∷ Rename 1 4 (Some 64) ∷ Rename 1 5 None ∷ Rename 1 6 (Some 65) ∷ Rename 1 8 (Some 66)
    ∷ Issue 3 0 ∷ Complete 3 0 (outcome (Some 0x80001000) (Pc 0x80000004))
    ∷ Issue 3 1 ∷ Complete 3 1 (outcome (Some 0x80001000) (Pc 0x80000004))
    ∷ Issue 3 2 ∷ Complete 3 2 (outcome None (Pc 0x80000008))
    ∷ Issue 3 3 ∷ Complete 3 3 (outcome None (Pc 0x80000014))
    ∷ Issue 5 4 ∷ Complete 5 4 (access (Some 0) 0x80001000 None (Pc 0x8000000c))
    ∷ Issue 5 5 ∷ Complete 5 5 (access None addr (Some 0) (Pc 0x80000018))
    ∷ Issue 5 6 ∷ Complete 5 6 (access (Some 0) 0x80001001 None (Pc 0x80000010))
    ∷ Issue 5 8 ∷ Complete 5 8 (access (Some 0) 0x80001000 None (Pc 0x80000014))
    ∷ Retire 2 0 (effect (Some 0x80001000) (Pc 0x80000004)) ∷ Retire 2 2 (effect None (Pc 0x80000008))
    ∷ Retire 2 1 (effect (Some 0x80001000) (Pc 0x80000004)) ∷ Retire 2 3 (effect None (Pc 0x80000014))
    ∷ Retire 2 5 x
    ∷ Retire 2 4 (effect (Some 0) (Pc 0x8000000c)) ∷ Retire 2 6 (effect (Some 0) (Pc 0x80000010))
    ∷ Retire 2 8 (effect (Some 0) (Pc 0x80000014)) ∷ []

-- ---- A byte: sb x0,1(x6)

abbrev a_byte : List Event
a_byte = before 0x000300a3 0x80001001 (write None 0x80001001 1 0 (Pc 0x80000018))

-- Each of its 49 events is allowed as it comes.
a_byte_is_allowed : refusal (two 0x000300a3) a_byte ≡ None
unfolding refusal
a_byte_is_allowed = refl

-- The store touches nothing as it completes. As it retires it touches the load of its byte, and that of the two bytes
-- of which the second is its; the load of the byte before it, whose address is the one of those two, stays untouched.
touched_by_a_byte :
    map (is_touched (past_of (take 45 a_byte))) (4 ∷ 6 ∷ 8 ∷ [])
    ∷ map (is_touched (past_of (take 46 a_byte))) (4 ∷ 6 ∷ 8 ∷ []) ∷ []
    ≡ (false ∷ false ∷ false ∷ []) ∷ (false ∷ true ∷ true ∷ []) ∷ []
unfolding rules_of_events
touched_by_a_byte = refl

-- So two of three look again, as they retire. The store is no load.
looks_after_a_byte : map (λ n. looks (past_of (take n a_byte))) (46 ∷ 47 ∷ 48 ∷ 49 ∷ []) ≡ 0 ∷ 0 ∷ 1 ∷ 2 ∷ []
unfolding rules_of_events
looks_after_a_byte = refl

loads_after_a_byte : map (λ n. loads (past_of (take n a_byte))) (46 ∷ 47 ∷ 48 ∷ 49 ∷ []) ≡ 0 ∷ 1 ∷ 2 ∷ 3 ∷ []
unfolding rules_of_events
loads_after_a_byte = refl

-- ---- A word: amoswap.w x0,x0,(x6)

abbrev a_swap : List Event
a_swap = before 0x0803202f 0x80001000 (write None 0x80001000 4 0 (Pc 0x80000018))

a_swap_is_allowed : refusal (two 0x0803202f) a_swap ≡ None
unfolding refusal
a_swap_is_allowed = refl

-- All three loads look again.
looks_after_a_swap : map (λ n. looks (past_of (take n a_swap))) (46 ∷ 47 ∷ 48 ∷ 49 ∷ []) ≡ 0 ∷ 1 ∷ 2 ∷ 3 ∷ []
unfolding rules_of_events
looks_after_a_swap = refl

-- ---- Nothing: sc.w x0,x0,(x6), with no reservation

abbrev no_write : List Event
no_write = before 0x1803202f 0x80001000 (effect None (Pc 0x80000018))

no_write_is_allowed : refusal (two 0x1803202f) no_write ≡ None
unfolding refusal
no_write_is_allowed = refl

-- It writes nothing and touches nothing: none of the three looks again.
looks_after_no_write : looks (past_of no_write) ∷ loads (past_of no_write) ∷ [] ≡ 0 ∷ 3 ∷ []
unfolding rules_of_events
looks_after_no_write = refl
