-- A program that writes its own code, worked on one hart with numbers that were found by hand: an instruction that was
-- fetched before the write is refetched. And each rule that a refetch can break.
use Rattle.std.specs.Prelude.{◌≡◌, ℕ, true, false, List, [], ◌∷◌, map, take, Option, Some, None, refl}
use Rattle.elf_image.specs.Image.{ProgramImage, word_now}
use Rattle.events.specs.{declared.effect.Next.TheVariants.Pc}
use Rattle.events.specs.{declared.event.Event.Event}
use Rattle.events.specs.declared.event.Event.TheVariants.{Fetch, Decode, Rename, Issue, Complete, Retire, Refetch}
use Rattle.smt_model.specs.{Setup.Setup, Flights.live, Fetching.fetch_pc, Memory.byte_at}
use Rattle.smt_model.specs.{Registers.is_unclaimed, Account.records}
use Rattle.smt_model.specs.Fates.{fate, Completed, Squashed}
use Rattle.worked_histories.proofs.Histories.{core, program, bytes_of, outcome, effect, access, write, retired, past_of}
use Rattle.worked_histories.proofs.Histories.{turned_at, Refusal, refusal, refusal_at, rules_of_events, standing}
use Rattle.worked_histories.proofs.Histories.{standing_after, order_of}

-- A program of these words that may be written too.
abbrev writable : List ℕ → ProgramImage
writable words =
    record (program words) { segments = record { address = 0x80000000; flags = 7; bytes = bytes_of words } ∷ [] }

-- auipc x6,0; sb x0,10(x6); addi x11,x0,7: the store makes addi x11,x0,0 of the third word.
abbrev words : List ℕ
words = 0x00000317 ∷ 0x00030523 ∷ 0x00700593 ∷ []

abbrev setup : Setup
setup = record (core 1 words) { image = writable words }

-- All three are fetched before the store retires. Number 2 is refetched as number 3.
abbrev rewritten : List Event
rewritten =
    Fetch 0 0 0 0x80000000 (Some 0x00000317) 0x80000004
    ∷ Fetch 0 0 1 0x80000004 (Some 0x00030523) 0x80000008
    ∷ Fetch 0 0 2 0x80000008 (Some 0x00700593) 0x8000000c
    ∷ Decode 1 0 ∷ Decode 1 1 ∷ Decode 1 2
    ∷ Rename 1 0 (Some 31) ∷ Rename 1 1 None ∷ Rename 1 2 (Some 32)
    ∷ Issue 3 0 ∷ Complete 3 0 (outcome (Some 0x80000000) (Pc 0x80000004))
    ∷ Issue 3 2 ∷ Complete 3 2 (outcome (Some 7) (Pc 0x8000000c))
    ∷ Issue 5 1 ∷ Complete 5 1 (access None 0x8000000a (Some 0) (Pc 0x80000008))
    ∷ Retire 2 0 (effect (Some 0x80000000) (Pc 0x80000004))
    ∷ Retire 2 1 (write None 0x8000000a 1 0 (Pc 0x80000008))
    ∷ Refetch 2 2
    ∷ Fetch 0 0 3 0x80000008 (Some 0x00000593) 0x8000000c
    ∷ Decode 1 3 ∷ Rename 1 3 (Some 32)
    ∷ Issue 3 3 ∷ Complete 3 3 (outcome (Some 0) (Pc 0x8000000c))
    ∷ Retire 2 3 (effect (Some 0) (Pc 0x8000000c)) ∷ []

-- The history so far, after n events.
abbrev so_far : ℕ → List Event
so_far n = past_of (take n rewritten)

-- The first refusal where event n is this one.
abbrev turned : ℕ → Event → Option Refusal
turned n e = refusal setup (turned_at n rewritten e)

-- Each of its 24 events is allowed as it comes.
rewritten_is_allowed : refusal setup rewritten ≡ None
unfolding refusal
rewritten_is_allowed = refl

-- ---- What the refetch changes

-- The third word in memory, before and after the store retires.
third_word :
    map (λ n. word_now setup.image (byte_at setup (so_far n)) 0x80000008) (16 ∷ 17 ∷ [])
    ≡ Some 0x00700593 ∷ Some 0x00000593 ∷ []
unfolding rules_of_events
third_word = refl

-- Number 2 has completed, and is squashed.
fates : map (λ n. fate (so_far n) 2) (17 ∷ 18 ∷ []) ≡ Completed ∷ Squashed ∷ []
unfolding rules_of_events
fates = refl

-- It was alone on its hart's way.
on_the_way : map (λ n. live (so_far n) 0) (17 ∷ 18 ∷ 19 ∷ []) ≡ (2 ∷ []) ∷ [] ∷ (3 ∷ []) ∷ []
unfolding rules_of_events
on_the_way = refl

-- Its hart goes back to its pc.
fetch_pcs : map (λ n. fetch_pc setup (so_far n) 0) (17 ∷ 18 ∷ 19 ∷ []) ≡ 0x8000000c ∷ 0x80000008 ∷ 0x8000000c ∷ []
unfolding rules_of_events
fetch_pcs = refl

-- Its register is free again.
its_register : map (λ n. is_unclaimed setup (so_far n) 32) (17 ∷ 18 ∷ 21 ∷ []) ≡ false ∷ true ∷ false ∷ []
unfolding rules_of_events
its_register = refl

-- A refetch leaves no record: three instructions retire, the last with the new word.
their_records :
    records (past_of rewritten)
    ≡ retired 0 0x80000008 0x00000593 (effect (Some 0) (Pc 0x8000000c))
    ∷ retired 0 0x80000004 0x00030523 (write None 0x8000000a 1 0 (Pc 0x80000008))
    ∷ retired 0 0x80000000 0x00000317 (effect (Some 0x80000000) (Pc 0x80000004)) ∷ []
unfolding rules_of_events
their_records = refl

-- So does the plain machine.
rewritten_refines :
    standing_after setup (0x80000008 ∷ []) (order_of rewritten)
    ≡ Some (standing setup (0x80000008 ∷ []) (past_of rewritten))
unfolding rules_of_events
rewritten_refines = refl

-- ---- Refusals

-- A stale one doesn't retire.
no_stale_retirement : turned 17 (Retire 2 2 (effect (Some 7) (Pc 0x8000000c))) ≡ refusal_at 17 5
unfolding refusal
no_stale_retirement = refl

-- Actor 6 is not configured.
refetch_by_a_stranger : turned 17 (Refetch 6 2) ≡ refusal_at 17 1
unfolding refusal
refetch_by_a_stranger = refl

-- Number 1 has been issued, and hasn't completed.
refetch_uncompleted : turned 14 (Refetch 2 1) ≡ refusal_at 14 2
unfolding refusal
refetch_uncompleted = refl

-- Number 1 is older.
refetch_out_of_order : turned 16 (Refetch 2 2) ≡ refusal_at 16 3
unfolding refusal
refetch_out_of_order = refl

-- Number 1 has the word that memory has.
refetch_of_a_fresh_one : turned 16 (Refetch 2 1) ≡ refusal_at 16 4
unfolding refusal
refetch_of_a_fresh_one = refl

-- It is refetched once.
refetch_again : turned 18 (Refetch 2 2) ≡ refusal_at 18 2
unfolding refusal
refetch_again = refl

-- The word that the image has is there no more.
no_old_word : turned 18 (Fetch 0 0 3 0x80000008 (Some 0x00700593) 0x8000000c) ≡ refusal_at 18 5
unfolding refusal
no_old_word = refl

-- Nor is the hart fetched on behind it.
no_fetch_behind : turned 18 (Fetch 0 0 3 0x8000000c None 0x80000010) ≡ refusal_at 18 4
unfolding refusal
no_fetch_behind = refl
