-- The history of a run, as it is built: between turns nothing is beyond the decode latches, and each hart that goes has
-- an instruction in its own. In a turn one instruction goes down the pipeline alone.
use Rattle.std.specs.Prelude.{◌≡◌, ◌≢◌, ℕ, ◌<◌, ◌≤◌, Bool, true, false, ◌==◌, ◌&&◌, ◌||◌, nat_lt, nat_le}
use Rattle.std.specs.Prelude.{if◌then◌else◌, List, [], ◌∷◌, ◌++◌, length, Option, None}
use Rattle.std.specs.List.{filter}
use Rattle.std.proofs.Common.{◌∙◌, refl, sym, ap, subst, inl, inr, arith}
use Rattle.std.proofs.{lemmas.Bool.cases_Bool, lemmas.Bool.cases_eq, lemmas.Bool.Decides.nat_tests}
use Rattle.std.proofs.{lemmas.List.append-nil}
use Rattle.events.specs.{declared.effect.Outcome.Outcome, declared.effect.Effect.Effect, declared.event.Event.Event}
use Rattle.events.specs.declared.event.Event.TheVariants.{Decode, Rename, Issue, Complete, Retire, Refetch}
use Rattle.smt_model.specs.{Basics.first, Setup.Setup, Flights.numbers, Flights.added, Flights.in_decode}
use Rattle.smt_model.specs.{Memory.is_going}
use Rattle.smt_model.specs.{Rules.is_legal, Account.order, Jobs.job, Asks.Ask}
use Rattle.smt_model.specs.Fates.{Fate, Unknown, InDecode, InRename, Renamed, Issued, Completed, Retired, Halted}
use Rattle.smt_model.specs.Fates.{Squashed, fate, fate_by, fetching, is, is_of, is_live, stage, squashes, squashed_fate}
use Rattle.smt_model.specs.Fates.{same_hart, mispredicts, squashes_at_retirement}
use Rattle.smt_model.proofs.{Lists.filter-same, Lists.filter-none, Lists.first-none, Fates.Moves.fate-kept}
use Rattle.smt_model.proofs.{Fates.Numbers.same_hart-at}
use Rattle.smt_model.proofs.Fates.Numbers.{is_of-is, is_of-one, numbers-of}
use Rattle.smt_laws.specs.{Shown.Predictor, Shown.AreDecided, Scripts.HasReplied}

-- ---- Words

-- A legal history, decided: what the core has after these asks. It has retired in this order, and has no more events
-- than so many.
pub record IsSoFar (setup : Setup) (predict : Predictor) (asks : List Ask) (harts : List ℕ) (past : List Event)
    (most : ℕ) : Type 0 where
  pub legal : is_legal setup past
  pub decided : AreDecided setup predict past
  pub replied : HasReplied setup predict asks past
  pub in_order : order past ≡ harts
  pub count : length past ≤ most

-- In a decode latch or not fetched, or no longer on the way.
abbrev pub is_aside : ℕ → Bool
is_aside at = nat_le at 1 || nat_le 6 at

abbrev pub IsRested : List Event → Type 0
IsRested past = (s : ℕ) → is_aside (stage (fate past s)) ≡ true

abbrev pub NoJobs : List Event → Type 0
NoJobs past = (k : ℕ) → job past k ≡ None

-- Instruction n of hart h has come so far, alone: all others stand aside, and of its hart all older ones are gone.
pub record IsAlone (past : List Event) (h n at : ℕ) : Type 0 where
  pub of_hart : is_of past h n ≡ true
  pub stands : stage (fate past n) ≡ at
  pub others : (s : ℕ) → s ≢ n → is_aside (stage (fate past s)) ≡ true
  pub older : (s : ℕ) → is_of past h s ≡ true → s < n → 6 ≤ stage (fate past s)

-- Each hart that goes, but for h, has an instruction in its latch.
abbrev pub OthersWait : Setup → List Event → ℕ → Type 0
OthersWait setup past h = (g : ℕ) → g < setup.harts → g ≢ h → is_going past g ≡ true → 1 ≤ length (in_decode past g)

abbrev pub AllWait : Setup → List Event → Type 0
AllWait setup past = (g : ℕ) → g < setup.harts → is_going past g ≡ true → 1 ≤ length (in_decode past g)

-- ---- Events of one instruction

-- The event is of n alone, which is hart h's, and touches only this hart.
pub record IsEventOf (past : List Event) (e : Event) (h n : ℕ) : Type 0 where
  pub tells : (s : ℕ) → s ≢ n → fate_by e s ≡ None
  pub spares : (s : ℕ) → is_of past h s ≡ false → squashes e past s ≡ false
  pub adds : (g : ℕ) → added e g ≡ []
  pub same : (g s : ℕ) → is_of (e ∷ past) g s ≡ is_of past g s
  pub going : (g : ℕ) → g ≢ h → is_going (e ∷ past) g ≡ is_going past g

apart_test : (n s : ℕ) → s ≢ n → (n == s) ≡ false
apart_test n s other = grind (arith, nat_tests)

third_false : (a b c : Bool) → c ≡ false → (a && (b && c)) ≡ false
third_false a b c none = grind arith

pub event-Decode : (past : List Event) (actor h n : ℕ) → IsEventOf past (Decode actor n) h n
event-Decode past actor h n = record {
  tells = λ s other. rw (apart_test n s other) refl;
  spares = λ s other. refl;
  adds = λ g. refl;
  same = λ g s. refl;
  going = λ g other. refl;
}

pub event-Rename : (past : List Event) (actor h n : ℕ) (register : Option ℕ)
    → IsEventOf past (Rename actor n register) h n
event-Rename past actor h n register = record {
  tells = λ s other. rw (apart_test n s other) refl;
  spares = λ s other. refl;
  adds = λ g. refl;
  same = λ g s. refl;
  going = λ g other. refl;
}

pub event-Issue : (past : List Event) (actor h n : ℕ) → IsEventOf past (Issue actor n) h n
event-Issue past actor h n = record {
  tells = λ s other. rw (apart_test n s other) refl;
  spares = λ s other. refl;
  adds = λ g. refl;
  same = λ g s. refl;
  going = λ g other. refl;
}

pub event-Complete : (past : List Event) (actor h n : ℕ) (o : Outcome) → is_of past h n ≡ true
    → IsEventOf past (Complete actor n o) h n
event-Complete past actor h n o of_n = record {
  tells = λ s other. rw (apart_test n s other) refl;
  spares = λ s other.
      third_false (mispredicts past n o.next) (nat_lt n s) (same_hart past n s) (same_hart-at past h n s of_n ∙ other);
  adds = λ g. refl;
  same = λ g s. refl;
  going = λ g other. refl;
}

of_no_other : (past : List Event) (h g n : ℕ) → is_of past h n ≡ true → g ≢ h → is_of past g n ≡ false
of_no_other past h g n of_n other =
    is_of-is past h g n of_n ∙ (let apart : (h == g) ≡ false = grind (arith, nat_tests) in apart)

pub event-Retire : (past : List Event) (actor h n : ℕ) (x : Effect) → is_of past h n ≡ true
    → IsEventOf past (Retire actor n x) h n
event-Retire past actor h n x of_n = record {
  tells = λ s other. rw (apart_test n s other) refl;
  spares = λ s other.
      third_false (squashes_at_retirement past n x) (nat_lt n s) (same_hart past n s)
      (same_hart-at past h n s of_n ∙ other);
  adds = λ g. refl;
  same = λ g s. refl;
  going = λ g other. rw (of_no_other past h g n of_n other) refl;
}

and_false : (a b : Bool) → b ≡ false → (a && b) ≡ false
and_false a b none = grind arith

pub event-Refetch : (past : List Event) (actor h n : ℕ) → is_of past h n ≡ true
    → IsEventOf past (Refetch actor n) h n
event-Refetch past actor h n of_n = record {
  tells = λ s other. refl;
  spares = λ s other. and_false (nat_le n s) (same_hart past n s) (same_hart-at past h n s of_n ∙ other);
  adds = λ g. refl;
  same = λ g s. refl;
  going = λ g other. refl;
}

-- ---- What it leaves

-- A squash changes none that isn't on its way, and puts the others aside.
left_alone : (squashed : Bool) (old : Fate) → 6 ≤ stage old → (if squashed then squashed_fate old else old) ≡ old
left_alone squashed Unknown six = absurd (omega arith)
left_alone squashed InDecode six = absurd (omega arith)
left_alone squashed InRename six = absurd (omega arith)
left_alone squashed Renamed six = absurd (omega arith)
left_alone squashed Issued six = absurd (omega arith)
left_alone squashed Completed six = absurd (omega arith)
left_alone true Retired six = refl
left_alone false Retired six = refl
left_alone true Halted six = refl
left_alone false Halted six = refl
left_alone true Squashed six = refl
left_alone false Squashed six = refl

stays_aside : (squashed : Bool) (old : Fate) → is_aside (stage old) ≡ true
    → is_aside (stage (if squashed then squashed_fate old else old)) ≡ true
stays_aside false old aside = aside
stays_aside true old aside = elim (cases_Bool (is_live old)) [
  | inl lives ↦ rw lives refl
  | inr gone ↦ rw gone aside
]

pub fate-other : (past : List Event) (e : Event) (s : ℕ) → fate_by e s ≡ None
    → fate (e ∷ past) s ≡ (if squashes e past s then squashed_fate (fate past s) else fate past s)
fate-other past e s tells = rw tells refl

other-aside : (past : List Event) (e : Event) (h n at s : ℕ) → IsAlone past h n at → IsEventOf past e h n → s ≢ n
    → is_aside (stage (fate (e ∷ past) s)) ≡ true
other-aside past e h n at s alone by other =
    ap (λ f. is_aside (stage f)) (fate-other past e s (by.tells s other))
    ∙ stays_aside (squashes e past s) (fate past s) (alone.others s other)

-- The next of its steps.
pub alone-next : (past : List Event) (e : Event) (h n at now : ℕ) → IsAlone past h n at → IsEventOf past e h n
    → stage (fate (e ∷ past) n) ≡ now → IsAlone (e ∷ past) h n now
alone-next past e h n at now alone by goes = record {
  of_hart = by.same h n ∙ alone.of_hart;
  stands = goes;
  others = λ s other. other-aside past e h n at s alone by other;
  older = λ s mine under.
      let gone = alone.older s (sym (by.same h s) ∙ mine) under in
      let kept : fate (e ∷ past) s ≡ fate past s =
      fate-other past e s (by.tells s (λ same. absurd (omega arith)))
      ∙ left_alone (squashes e past s) (fate past s) gone in
      subst (λ f. 6 ≤ stage f) (sym kept) gone;
}

aside_gone : (at : ℕ) → 6 ≤ at → is_aside at ≡ true
aside_gone at six = grind (arith, nat_tests)

-- Once it has left, there is rest.
pub rested-next : (past : List Event) (e : Event) (h n at : ℕ) → IsAlone past h n at → IsEventOf past e h n
    → 6 ≤ stage (fate (e ∷ past) n) → IsRested (e ∷ past)
rested-next past e h n at alone by gone s =
    elim (cases_eq s n) [
      | inl here ↦ subst (λ z. is_aside (stage (fate (e ∷ past) z)) ≡ true) (sym here)
          (aside_gone (stage (fate (e ∷ past) n)) gone)
      | inr other ↦ other-aside past e h n at s alone by other
    ]

-- ---- The latches of the other harts

pub latch-other : (setup : Setup) (past : List Event) → is_legal setup past → (e : Event) (h n : ℕ)
    → is_of past h n ≡ true → IsEventOf past e h n → (g : ℕ) → g ≢ h → in_decode (e ∷ past) g ≡ in_decode past g
latch-other setup past legal e h n of_n by g apart =
    ap (λ ys. filter (λ s. is (fate (e ∷ past) s) InDecode) (numbers past g ++ ys)) (by.adds g)
    ∙ (ap (filter (λ s. is (fate (e ∷ past) s) InDecode)) (append-nil (numbers past g))
    ∙ filter-same (λ s. is (fate (e ∷ past) s) InDecode) (λ s. is (fate past s) InDecode) (numbers past g)
    (λ s m.
    let of_g = numbers-of setup past legal g s m in
    let other : s ≢ n =
    λ same. apart (is_of-one past g h s of_g (subst (λ z. is_of past h z ≡ true) (sym same) of_n)) in
    ap (λ f. is f InDecode) (fate-kept e past s (by.tells s other)
    (by.spares s (of_no_other past g h s of_g (λ same. apart (sym same)))))))

pub others-wait : (setup : Setup) (past : List Event) → is_legal setup past → (e : Event) (h n : ℕ)
    → is_of past h n ≡ true → IsEventOf past e h n → OthersWait setup past h → OthersWait setup (e ∷ past) h
others-wait setup past legal e h n of_n by wait g there apart going =
    subst (λ xs. 1 ≤ length xs) (sym (latch-other setup past legal e h n of_n by g apart))
    (wait g there apart (sym (by.going g apart) ∙ going))

-- ---- What a turn of hart h leaves of the others

-- The latches of the others are what they were, and they go as before. In its own is nothing now, if there was one.
pub record KeepsLatches (from now : List Event) (h : ℕ) : Type 0 where
  pub others : (g : ℕ) → g ≢ h → in_decode now g ≡ in_decode from g
  pub own : length (in_decode from h) ≤ 1 → in_decode now h ≡ []
  pub going : (g : ℕ) → g ≢ h → is_going now g ≡ is_going from g
  pub fetched : (s : ℕ) → fetching now s ≡ fetching from s

waits_no_more : (f : Fate) → 2 ≤ stage f → is f InDecode ≡ false
waits_no_more f beyond = grind (arith, nat_tests)

never_waits : (squashed : Bool) (old : Fate) → is old InDecode ≡ false
    → is (if squashed then squashed_fate old else old) InDecode ≡ false
never_waits false old not_there = not_there
never_waits true old not_there = elim (cases_Bool (is_live old)) [
  | inl lives ↦ rw lives refl
  | inr gone ↦ rw gone not_there
]

latch-none : (past : List Event) (e : Event) (h n : ℕ) → IsEventOf past e h n → 2 ≤ stage (fate (e ∷ past) n)
    → in_decode past h ≡ [] → in_decode (e ∷ past) h ≡ []
latch-none past e h n by beyond empty =
    let test : ℕ → Bool = λ s. is (fate (e ∷ past) s) InDecode in
    ap (λ ys. filter test (numbers past h ++ ys)) (by.adds h)
    ∙ (ap (filter test) (append-nil (numbers past h))
    ∙ filter-none test (numbers past h) (λ s m. elim (cases_eq s n) [
      | inl here ↦
          subst (λ z. is (fate (e ∷ past) z) InDecode ≡ false) (sym here)
          (waits_no_more (fate (e ∷ past) n) beyond)
      | inr other ↦
          ap (λ f. is f InDecode) (fate-other past e s (by.tells s other))
          ∙ never_waits (squashes e past s) (fate past s)
          (first-none (λ z. is (fate past z) InDecode) (numbers past h) (ap first empty) s m)
    ]))

pub latches-next : (setup : Setup) (from past : List Event) → is_legal setup past → (e : Event) (h n : ℕ)
    → is_of past h n ≡ true → IsEventOf past e h n → ((s : ℕ) → fetching (e ∷ past) s ≡ fetching past s)
    → 2 ≤ stage (fate (e ∷ past) n) → KeepsLatches from past h → KeepsLatches from (e ∷ past) h
latches-next setup from past legal e h n of_n by same beyond keeps = record {
  others = λ g apart. latch-other setup past legal e h n of_n by g apart ∙ keeps.others g apart;
  own = λ few. latch-none past e h n by beyond (keeps.own few);
  going = λ g apart. by.going g apart ∙ keeps.going g apart;
  fetched = λ s. same s ∙ keeps.fetched s;
}
