-- Worked rows, computed: what the definitions of the statements say of histories and records whose numbers were found
-- by hand.
use Rattle.std.specs.Prelude.{◌≡◌, ℕ, true, false, List, [], ◌∷◌, map, take, drop, Option, Some, None, refl}
use Rattle.events.specs.{declared.effect.Next.TheVariants.Pc, declared.effect.Next.TheVariants.Ended}
use Rattle.events.specs.{declared.effect.Record.Record, declared.event.Event.Event}
use Rattle.events.specs.declared.event.Event.TheVariants.{Fetch, Decode, Rename, Issue, Complete, Retire}
use Rattle.smt_model.specs.{Setup.Setup, Flights.live, Fetching.fetch_pc}
use Rattle.worked_histories.proofs.Histories.{core, outcome, effect, write, retired, past_of, refusal, rules_of_events}
use Rattle.smt_laws.specs.{Sequential.retired_pc, Chain.Hop, Chain.hop}
use Rattle.smt_laws.specs.Execution.{goes_by, pc_by, number_by, byte_by, done_by}

-- ---- A wrong prediction. Two harts run addi x10,x0,5; addi x17,x0,93; ecall. Hart 0's first is predicted to jump over
-- the second word. Physical registers from 62 on are free.

abbrev two : Setup
two = core 2 (0x00500513 ∷ 0x05d00893 ∷ 0x00000073 ∷ [])

abbrev mispredicted : List Event
mispredicted =
    Fetch 0 0 0 0x80000000 (Some 0x00500513) 0x80000008 ∷ Fetch 0 1 1 0x80000000 (Some 0x00500513) 0x80000004
    ∷ Fetch 0 0 2 0x80000008 (Some 0x00000073) 0x8000000c
    ∷ Decode 1 0 ∷ Decode 1 1 ∷ Rename 1 0 (Some 62) ∷ Rename 1 1 (Some 63)
    ∷ Issue 3 0 ∷ Complete 3 0 (outcome (Some 5) (Pc 0x80000004))
    ∷ Fetch 0 0 3 0x80000004 (Some 0x05d00893) 0x80000008
    ∷ Retire 2 0 (effect (Some 5) (Pc 0x80000004)) ∷ []

abbrev so_far : ℕ → List Event
so_far n = past_of (take n mispredicted)

-- The instructions that a hart has on its way after n events, each with its pc and where it leads.
abbrev path : ℕ → ℕ → List (Option Hop)
path n h = map (hop (so_far n)) (live (so_far n) h)

abbrev leads : ℕ → ℕ → Option Hop
leads pc next = Some (record { pc = pc; next = next })

-- Each of its events is allowed as it comes.
mispredicted_is_allowed : refusal two mispredicted ≡ None
unfolding refusal
mispredicted_is_allowed = refl

-- Before the completion hart 0's path is the predicted one, to where it fetches.
predicted_path :
    path 8 0 ≡ leads 0x80000000 0x80000008 ∷ leads 0x80000008 0x8000000c ∷ []
unfolding rules_of_events
predicted_path = refl

-- It squashes number 2, and number 0 leads to the second word: there the hart is fetched next.
replayed_path : path 9 0 ≡ leads 0x80000000 0x80000004 ∷ []
unfolding rules_of_events
replayed_path = refl

-- Then to the third.
longer_path : path 10 0 ≡ leads 0x80000000 0x80000004 ∷ leads 0x80000004 0x80000008 ∷ []
unfolding rules_of_events
longer_path = refl

-- As number 0 retires the path begins behind it. Hart 1's is what it was.
later_paths :
    map (path 11) (0 ∷ 1 ∷ []) ≡ (leads 0x80000004 0x80000008 ∷ []) ∷ (leads 0x80000000 0x80000004 ∷ []) ∷ []
unfolding rules_of_events
later_paths = refl

-- Where the harts' paths begin, before and after the retirement, and where hart 0's ends.
both_ends :
    map (retired_pc two (so_far 10)) (0 ∷ 1 ∷ []) ∷ map (retired_pc two (so_far 11)) (0 ∷ 1 ∷ [])
    ∷ map (λ n. fetch_pc two (so_far n) 0) (8 ∷ 9 ∷ 10 ∷ 11 ∷ []) ∷ []
    ≡ (0x80000000 ∷ 0x80000000 ∷ []) ∷ (0x80000004 ∷ 0x80000000 ∷ [])
    ∷ (0x8000000c ∷ 0x80000004 ∷ 0x80000008 ∷ 0x80000008 ∷ []) ∷ []
unfolding rules_of_events
both_ends = refl

-- ---- Records alone: the same first instruction of both harts, then hart 0's others, which end it with 5.

abbrev ended : List Record
ended =
    retired 0 0x80000008 0x00000073 (effect None (Ended 5))
    ∷ retired 0 0x80000004 0x05d00893 (effect (Some 0x5d) (Pc 0x80000008))
    ∷ retired 1 0x80000000 0x00500513 (effect (Some 5) (Pc 0x80000004))
    ∷ retired 0 0x80000000 0x00500513 (effect (Some 5) (Pc 0x80000004)) ∷ []

-- Hart 0 has ended and stays at its ECALL; hart 1 goes, and stands at its second word.
where_they_stand : map (goes_by ended) (0 ∷ 1 ∷ []) ≡ false ∷ true ∷ []
where_they_stand = refl

their_pcs : map (pc_by two ended) (0 ∷ 1 ∷ []) ≡ 0x80000008 ∷ 0x80000004 ∷ []
their_pcs = refl

-- x10 and x17 of hart 0, then of hart 1; x11 is the number of harts in both.
their_registers :
    map (number_by two ended 0) (10 ∷ 17 ∷ 11 ∷ []) ∷ map (number_by two ended 1) (10 ∷ 17 ∷ 11 ∷ []) ∷ []
    ≡ (5 ∷ 0x5d ∷ 2 ∷ []) ∷ (5 ∷ 0 ∷ 2 ∷ []) ∷ []
unfolding rules_of_events
their_registers = refl

-- ECALL does with these numbers what its record says: it ends hart 0 with x10, as x17 is 93.
its_effect :
    done_by two (drop 1 ended) (retired 0 0x80000008 0x00000073 (effect None (Pc 0))) ≡ effect None (Ended 5)
unfolding rules_of_events
its_effect = refl

-- ---- Words in memory. Hart 0 writes 4 bytes, then hart 1 one of them; the oldest record stands last.

abbrev written : List Record
written =
    retired 1 0x80000000 0x00730023 (write None 0x80001001 1 0xaa (Pc 0x80000004))
    ∷ retired 0 0x80000000 0x00732023 (write None 0x80001000 4 0x11223344 (Pc 0x80000004)) ∷ []

-- Each byte is that of the last write to it; behind them nothing was written.
last_bytes :
    map (byte_by two written) (0x80001000 ∷ 0x80001001 ∷ 0x80001002 ∷ 0x80001003 ∷ 0x80001004 ∷ [])
    ≡ 0x44 ∷ 0xaa ∷ 0x22 ∷ 0x11 ∷ 0 ∷ []
unfolding rules_of_events
last_bytes = refl
