-- Events that squash nothing: all but their own instruction stay where they are, and so do the places of the pipeline.
use Rattle.std.specs.Prelude.{◌≡◌, ◌≢◌, ℕ, ◌≤◌, Bool, true, false, ◌&&◌, List, [], ◌∷◌, ◌++◌, None}
use Rattle.std.specs.List.{filter}
use Rattle.std.proofs.Common.{◌∙◌, refl, sym, ap, subst, inl, inr, arith}
use Rattle.std.proofs.{lemmas.Bool.cases_eq, lemmas.Bool.Decides.nat_tests, lemmas.List.append-nil}
use Rattle.events.specs.{declared.event.Event.Event, Event.seq_of}
use Rattle.events.specs.declared.event.Event.TheVariants.{Fetch, Decode, Rename, Issue, Complete, Drop, Retire, Refetch}
use Rattle.smt_model.specs.{Basics.first, Setup.Setup, Kinds.first_source, Kinds.second_source, Rules.refused}
use Rattle.smt_model.specs.{Rules.is_legal, Picture.picture, Steps.IsSameInstruction, Steps.KeepsFlights}
use Rattle.smt_model.specs.{Steps.KeepsJobs}
use Rattle.smt_model.specs.Fates.{Fate, Renamed, stage, fate, is, is_in_flight, stands, fate_by, squashes, completion}
use Rattle.smt_model.specs.Fates.{completed_by}
use Rattle.smt_model.specs.Flights.{numbers, added, all_numbers, added_by_any, queue}
use Rattle.smt_model.specs.Registers.{namings, given_register, named_by, phys, writes, writer, mapped, register_by}
use Rattle.smt_model.specs.Registers.{first_register, resulting, result_of}
use Rattle.smt_model.proofs.{Lists.member, Lists.filter-same, Lists.first-passes, Fates.Sound.sound}
use Rattle.smt_laws.proofs.Registers.Namings.{newest-same, named-renamed}
use Rattle.smt_laws.proofs.{Registers.Namings.operand-kept, Registers.Sources.writes-kept}
use Rattle.smt_laws.proofs.Registers.Committing.{register_by-kept}

-- It squashes nothing.
abbrev pub IsCalm : List Event → Event → Type 0
IsCalm past e = (s : ℕ) → squashes e past s ≡ false

-- ---- Another's event says nothing of an instruction

pub told-other : (e : Event) (s : ℕ) → seq_of e ≢ s → fate_by e s ≡ None
told-other (Fetch actor hart n pc word predicted) s other = grind (arith, nat_tests)
told-other (Decode actor n) s other = grind (arith, nat_tests)
told-other (Rename actor n register) s other = grind (arith, nat_tests)
told-other (Issue actor n) s other = grind (arith, nat_tests)
told-other (Complete actor n outcome) s other = grind (arith, nat_tests)
told-other (Drop actor n) s other = refl
told-other (Retire actor n effect) s other = grind (arith, nat_tests)
told-other (Refetch actor n) s other = refl

pub completed-other : (e : Event) (s : ℕ) → seq_of e ≢ s → completed_by e s ≡ None
completed-other (Fetch actor hart n pc word predicted) s other = refl
completed-other (Decode actor n) s other = refl
completed-other (Rename actor n register) s other = refl
completed-other (Issue actor n) s other = refl
completed-other (Complete actor n outcome) s other = grind (arith, nat_tests)
completed-other (Drop actor n) s other = refl
completed-other (Retire actor n effect) s other = refl
completed-other (Refetch actor n) s other = refl

pub named-other : (e : Event) (s : ℕ) → seq_of e ≢ s → named_by e s ≡ None
named-other (Fetch actor hart n pc word predicted) s other = refl
named-other (Decode actor n) s other = refl
named-other (Rename actor n register) s other = grind (arith, nat_tests)
named-other (Issue actor n) s other = refl
named-other (Complete actor n outcome) s other = refl
named-other (Drop actor n) s other = refl
named-other (Retire actor n effect) s other = refl
named-other (Refetch actor n) s other = refl

pub resulting-other : (e : Event) (s : ℕ) → seq_of e ≢ s → resulting e s ≡ None
resulting-other (Fetch actor hart n pc word predicted) s other = refl
resulting-other (Decode actor n) s other = refl
resulting-other (Rename actor n register) s other = refl
resulting-other (Issue actor n) s other = refl
resulting-other (Complete actor n outcome) s other = grind (arith, nat_tests)
resulting-other (Drop actor n) s other = refl
resulting-other (Retire actor n effect) s other = grind (arith, nat_tests)
resulting-other (Refetch actor n) s other = refl

pub fate-other : (e : Event) (past : List Event) (s : ℕ) → seq_of e ≢ s → squashes e past s ≡ false
    → fate (e ∷ past) s ≡ fate past s
fate-other e past s other keeps = rw (told-other e s other, keeps) refl

pub completion-other : (e : Event) (past : List Event) (s : ℕ) → seq_of e ≢ s
    → completion (e ∷ past) s ≡ completion past s
completion-other e past s other = rw (completed-other e s other) refl

pub phys-other : (e : Event) (past : List Event) (s : ℕ) → seq_of e ≢ s → phys (e ∷ past) s ≡ phys past s
phys-other e past s other = rw (named-other e s other) refl

pub result-other : (e : Event) (past : List Event) (s : ℕ) → seq_of e ≢ s → result_of (e ∷ past) s ≡ result_of past s
result-other e past s other = rw (resulting-other e s other) refl

-- An instruction that is another's and is spared is as it was.
pub same_instruction : (setup : Setup) (e : Event) (past : List Event) (s : ℕ) → seq_of e ≢ s
    → squashes e past s ≡ false
    → IsSameInstruction (picture setup past) (picture setup (e ∷ past)) s
same_instruction setup e past s other keeps = record {
  fate = fate-other e past s other keeps;
  phys = phys-other e past s other;
  completion = completion-other e past s other;
}

pub calm-flights : (setup : Setup) (e : Event) (past : List Event) → IsCalm past e
    → KeepsFlights (picture setup past) (picture setup (e ∷ past)) (seq_of e)
calm-flights setup e past calm t flies other = same_instruction setup e past t (λ same. other (sym same)) (calm t)

-- Of an event whose instruction isn't in flight: all of them.
pub calm-all_flights : (setup : Setup) (e : Event) (past : List Event) → IsCalm past e
    → is_in_flight (fate past (seq_of e)) ≡ false
    → (t : ℕ) → is_in_flight (fate past t) ≡ true → IsSameInstruction (picture setup past) (picture setup (e ∷ past)) t
calm-all_flights setup e past calm grounded t flies =
    same_instruction setup e past t (λ same. let also : is_in_flight (fate past t) ≡ false = rw (← same) grounded in
    absurd (grind arith)) (calm t)

-- ---- Places

-- A place of a list of numbers.
place-same : (e : Event) (past : List Event) → IsCalm past e → (test : Fate → Bool) (xs : List ℕ)
    → (member (seq_of e) xs ≡ true → test (fate (e ∷ past) (seq_of e)) ≡ test (fate past (seq_of e)))
    → filter (λ s. test (fate (e ∷ past) s)) xs ≡ filter (λ s. test (fate past s)) xs
place-same e past calm test xs own =
    filter-same (λ s. test (fate (e ∷ past) s)) (λ s. test (fate past s)) xs (λ s m.
    elim (cases_eq (seq_of e) s) [
      | inl same ↦
          subst (λ z. test (fate (e ∷ past) z) ≡ test (fate past z)) same
          (own (subst (λ z. member z xs ≡ true) (sym same) m))
      | inr other ↦ ap test (fate-other e past s other (calm s))
    ])

-- A place of a hart stays where the event's instruction neither comes nor goes.
pub place-calm : (e : Event) (past : List Event) → IsCalm past e → (test : Fate → Bool) (h : ℕ) → added e h ≡ []
    → (member (seq_of e) (numbers past h) ≡ true → test (fate (e ∷ past) (seq_of e)) ≡ test (fate past (seq_of e)))
    → filter (λ s. test (fate (e ∷ past) s)) (numbers (e ∷ past) h) ≡ filter (λ s. test (fate past s)) (numbers past h)
place-calm e past calm test h none own =
    ap (λ xs. filter (λ s. test (fate (e ∷ past) s)) (numbers past h ++ xs)) none
    ∙ (ap (λ xs. filter (λ s. test (fate (e ∷ past) s)) xs) (append-nil (numbers past h))
    ∙ place-same e past calm test (numbers past h) own)

-- The queue stays where it neither enters nor leaves it.
pub queue-calm : (e : Event) (past : List Event) → IsCalm past e → added_by_any e ≡ []
    → is (fate (e ∷ past) (seq_of e)) Renamed ≡ is (fate past (seq_of e)) Renamed → queue (e ∷ past) ≡ queue past
queue-calm e past calm none own =
    ap (λ xs. filter (λ s. is (fate (e ∷ past) s) Renamed) (all_numbers past ++ xs)) none
    ∙ (ap (λ xs. filter (λ s. is (fate (e ∷ past) s) Renamed) xs) (append-nil (all_numbers past))
    ∙ place-same e past calm (λ f. is f Renamed) (all_numbers past) (λ inside. own))

-- ---- Maps

pub and_same : (b c d : Bool) → (b ≡ true → c ≡ d) → (b && c) ≡ (b && d)
and_same true c d same = same refl
and_same false c d same = refl

-- The map stays where what the event's instruction writes stands as it did, and no register is named.
writer-test : (setup : Setup) (past : List Event) → is_legal setup past → (e : Event) → refused setup past e ≡ None
    → IsCalm past e
    → (h r : ℕ)
    → (writes past h r (seq_of e) ≡ true → 3 ≤ stage (fate past (seq_of e))
    → stands (fate (e ∷ past) (seq_of e)) ≡ stands (fate past (seq_of e)))
    → (x : ℕ) → member x (namings past) ≡ true
    → (writes (e ∷ past) h r x && stands (fate (e ∷ past) x)) ≡ (writes past h r x && stands (fate past x))
writer-test setup past legal e ok calm h r own x m =
    let late = named-renamed setup past legal x m in
    let kept = writes-kept setup past legal e ok h r x (omega arith) in
    rw kept (and_same (writes past h r x) (stands (fate (e ∷ past) x)) (stands (fate past x)) (λ mine.
    elim (cases_eq (seq_of e) x) [
      | inl same ↦
          subst (λ z. stands (fate (e ∷ past) z) ≡ stands (fate past z)) same
          (own (subst (λ z. writes past h r z ≡ true) (sym same) mine)
          (subst (λ z. 3 ≤ stage (fate past z)) (sym same) late))
      | inr other ↦ ap stands (fate-other e past x other (calm x))
    ]))

pub writer-calm : (setup : Setup) (past : List Event) → is_legal setup past → (e : Event) → refused setup past e ≡ None
    → IsCalm past e
    → given_register e ≡ [] → (h r : ℕ)
    → (writes past h r (seq_of e) ≡ true → 3 ≤ stage (fate past (seq_of e))
    → stands (fate (e ∷ past) (seq_of e)) ≡ stands (fate past (seq_of e)))
    → writer (e ∷ past) h r ≡ writer past h r
writer-calm setup past legal e ok calm none h r own =
    ap (λ xs. first (filter (λ x. writes (e ∷ past) h r x && stands (fate (e ∷ past) x)) (xs ++ namings past))) none
    ∙ newest-same (λ x. writes (e ∷ past) h r x && stands (fate (e ∷ past) x))
    (λ x. writes past h r x && stands (fate past x)) past
    (writer-test setup past legal e ok calm h r own)

-- Where the writer stays, the map does.
pub mapped-kept : (setup : Setup) (past : List Event) → is_legal setup past → (e : Event)
    → refused setup past e ≡ None → (h r : ℕ)
    → writer (e ∷ past) h r ≡ writer past h r → mapped (e ∷ past) h r ≡ mapped past h r
mapped-kept setup past legal e ok h r same =
    ap (register_by (e ∷ past) (first_register h r)) same
    ∙ register_by-kept setup past legal e ok (first_register h r) (writer past h r) (λ w found.
    let passes = first-passes (λ x. writes past h r x && stands (fate past x)) (namings past) w found in
    let late = named-renamed setup past legal w passes.1 in
    λ two. absurd (omega arith))

-- ---- Jobs

-- Operands of open jobs stay.
pub keeps_jobs : (setup : Setup) (past : List Event) → is_legal setup past → (e : Event) → refused setup past e ≡ None
    → KeepsJobs (picture setup past) (picture setup (e ∷ past))
keeps_jobs setup past legal e ok k s before now =
    let at = (sound setup past legal).jobs k s before in
    let late : stage (fate past s) ≢ 3 = λ three. absurd (grind (arith, nat_tests)) in
    (operand-kept setup past e ok first_source s late, operand-kept setup past e ok second_source s late)
