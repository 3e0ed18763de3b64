-- Calls and stops, computed on worked histories: their numbers were found by hand, and no code of the simulator takes
-- part. Each history ends where the plain machine does.
use Rattle.std.specs.Prelude.{◌≡◌, ℕ, List, [], ◌∷◌, ◌++◌, map, option_map, take, replicate, Some, None, refl}
use Rattle.events.specs.{declared.effect.Next.TheVariants.Pc, declared.effect.Next.TheVariants.Stopped}
use Rattle.events.specs.{declared.event.Event.Event}
use Rattle.events.specs.declared.event.Event.TheVariants.{Fetch, Decode, Rename, Issue, Complete, Retire}
use Rattle.smt_model.specs.declared.config.Status.TheVariants as status
use Rattle.smt_model.specs.{Basics.below, Setup.Setup, Memory.output, Account.account, Account.committed_value}
use Rattle.worked_histories.proofs.Histories.{core, one_word, outcome, effect, retired, past_of, turned_at, refusal}
use Rattle.worked_histories.proofs.Histories.{refusal_at, rules_of_events, standing, standing_after, order_of}

-- ---- A call that puts a byte out

-- addi x10,x0,-1; addi x17,x0,1; ecall
abbrev puts : Setup
puts = core 1 (0xfff00513 ∷ 0x00100893 ∷ 0x00000073 ∷ [])

-- Behind the call there is no word, and the hart stops there.
abbrev put : List Event
put =
    Fetch 0 0 0 0x80000000 (Some 0xfff00513) 0x80000004 ∷ Fetch 0 0 1 0x80000004 (Some 0x00100893) 0x80000008
    ∷ Fetch 0 0 2 0x80000008 (Some 0x00000073) 0x8000000c ∷ Fetch 0 0 3 0x8000000c None 0x80000010
    ∷ Decode 1 0 ∷ Decode 1 1 ∷ Decode 1 2 ∷ Decode 1 3
    ∷ Rename 1 0 (Some 31) ∷ Rename 1 1 (Some 32) ∷ Rename 1 2 None ∷ Rename 1 3 None
    ∷ Issue 3 0 ∷ Complete 3 0 (outcome (Some 0xffffffff) (Pc 0x80000004))
    ∷ Issue 3 1 ∷ Complete 3 1 (outcome (Some 1) (Pc 0x80000008))
    ∷ Issue 3 2 ∷ Complete 3 2 (record (outcome None (Pc 0x8000000c)) { out = Some 0xff })
    ∷ Issue 3 3 ∷ Complete 3 3 (outcome None (Stopped 1))
    ∷ Retire 2 0 (effect (Some 0xffffffff) (Pc 0x80000004)) ∷ Retire 2 1 (effect (Some 1) (Pc 0x80000008))
    ∷ Retire 2 2 (record (effect None (Pc 0x8000000c)) { out = Some 0xff })
    ∷ Retire 2 3 (effect None (Stopped 1)) ∷ []

-- Each of its events is allowed as it comes.
put_is_allowed : refusal puts put ≡ None
unfolding refusal
put_is_allowed = refl

-- The byte is put out as the call retires, and not as it completes.
output_of_the_call :
    map (λ n. output (past_of (take n put))) (20 ∷ 22 ∷ 23 ∷ 24 ∷ [])
    ≡ [] ∷ [] ∷ (0xff ∷ []) ∷ (0xff ∷ []) ∷ []
output_of_the_call = refl

-- The hart has stopped behind the call, where there is no word.
status_after_the_call : (account puts (past_of put)).statuses ≡ status.Stopped 1 ∷ []
status_after_the_call = refl

-- The plain machine ends where it does.
put_refines : standing_after puts [] (order_of put) ≡ Some (standing puts [] (past_of put))
unfolding rules_of_events
put_refines = refl

-- It is the low byte of x10 that is put out, and it is put out.
not_the_whole_word :
    refusal puts (turned_at 17 put (Complete 3 2 (record (outcome None (Pc 0x8000000c)) { out = Some 0xffffffff })))
    ≡ refusal_at 17 4
unfolding refusal
not_the_whole_word = refl

-- A retirement without the byte is refused.
not_nothing : refusal puts (turned_at 22 put (Retire 2 2 (effect None (Pc 0x8000000c)))) ≡ refusal_at 22 4
unfolding refusal
not_nothing = refl

-- ---- Bytes are put out in order: H and i

-- addi x17,x0,1; addi x10,x0,72; ecall; addi x10,x0,105; ecall
output_of_two_calls :
    option_map (λ s. s.output) (
    standing_after (core 1 (0x00100893 ∷ 0x04800513 ∷ 0x00000073 ∷ 0x06900513 ∷ 0x00000073 ∷ [])) [] (replicate 5 0)
    )
    ≡ Some (72 ∷ 105 ∷ [])
unfolding rules_of_events
output_of_two_calls = refl

-- Two retirements put them out so.
output_of_two_retirements :
    output (past_of (
    Retire 2 2 (record (effect None (Pc 0x8000000c)) { out = Some 72 })
    ∷ Retire 2 4 (record (effect None (Pc 0x80000014)) { out = Some 105 }) ∷ []
    ))
    ≡ 72 ∷ 105 ∷ []
output_of_two_retirements = refl

-- ---- Stops

-- One hart executes the first word of its program, which stops it, and is never renamed to a register.
abbrev stops_with : ℕ → List Event
stops_with cause =
    Decode 1 0 ∷ Rename 1 0 None ∷ Issue 3 0 ∷ Complete 3 0 (outcome None (Stopped cause))
    ∷ Retire 2 0 (effect None (Stopped cause)) ∷ []

-- A word of no instruction: cause 2.
abbrev illegal : List Event
illegal = Fetch 0 0 0 0x80000000 (Some 0x00000000) 0x80000004 ∷ stops_with 2

-- Each of its events is allowed as it comes.
illegal_is_allowed : refusal (one_word 0) illegal ≡ None
unfolding refusal
illegal_is_allowed = refl

-- The plain machine stops there too.
illegal_refines :
    standing_after (one_word 0) [] (0 ∷ [])
    ≡ Some (standing (one_word 0) [] (past_of illegal))
unfolding rules_of_events
illegal_refines = refl

-- No other cause.
illegal_stops_with_2 :
    map (λ cause. refusal (one_word 0) (turned_at 4 illegal (Complete 3 0 (outcome None (Stopped cause))))) (below 9)
    ≡ refusal_at 4 4 ∷ refusal_at 4 4 ∷ None ∷ replicate 6 (refusal_at 4 4)
unfolding refusal
illegal_stops_with_2 = refl

-- An unknown call: cause 8. x17 is 0 at the start.
abbrev unknown : List Event
unknown = Fetch 0 0 0 0x80000000 (Some 0x00000073) 0x80000004 ∷ stops_with 8

-- Each of its events is allowed as it comes.
unknown_is_allowed : refusal (one_word 0x73) unknown ≡ None
unfolding refusal
unknown_is_allowed = refl

-- The plain machine stops there too.
unknown_refines :
    standing_after (one_word 0x73) [] (0 ∷ [])
    ≡ Some (standing (one_word 0x73) [] (past_of unknown))
unfolding rules_of_events
unknown_refines = refl

-- A retirement that stops changes nothing but the status: all registers are as at the start.
nothing_else_changes :
    map (committed_value (one_word 0x73) (past_of unknown) 0) (below 32)
    ≡ map (committed_value (one_word 0x73) [] 0) (below 32)
unfolding rules_of_events
nothing_else_changes = refl

-- ---- The plain machine behind the code: `addi x0,x0,0`, and then no word, cause 1

-- Two steps give these records and this end.
two_steps :
    standing_after (one_word 0x13) [] (0 ∷ 0 ∷ [])
    ≡ Some (record {
      records =
          retired 0 0x80000000 0x00000013 (effect None (Pc 0x80000004))
          ∷ record { hart = 0; pc = 0x80000004; word = None; effect = effect None (Stopped 1) } ∷ [];
      registers = (replicate 11 (Some 0) ++ Some 1 ∷ replicate 20 (Some 0)) ∷ [];
      reservations = None ∷ [];
      statuses = status.Stopped 1 ∷ [];
      words = [];
      output = [];
    })
unfolding rules_of_events
two_steps = refl

-- A third is not defined.
no_third_step : standing_after (one_word 0x13) [] (0 ∷ 0 ∷ 0 ∷ []) ≡ None
unfolding rules_of_events
no_third_step = refl

-- Nor is a step of a hart that isn't there.
no_step_of_hart_1 : standing_after (one_word 0x13) [] (1 ∷ []) ≡ None
unfolding rules_of_events
no_step_of_hart_1 = refl
