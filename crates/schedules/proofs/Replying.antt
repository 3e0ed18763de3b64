-- A script's history is what its asks leave, whatever its actors hold in between.
use Rattle.std.specs.Prelude.{◌≡◌, ◌⊎◌, ◌<◌, ◌≤◌, ◌==◌, ℕ, true, false, List, [], ◌∷◌, ◌++◌, length, reverse}
use Rattle.std.specs.Prelude.{not, ◌&&◌, ◌||◌, nat_lt, if◌then◌else◌, Bool, Option, Some, None, is_some}
use Rattle.std.proofs.Common.{◌∙◌, refl, sym, ap, subst, inl, inr, append_assoc, arith}
use Rattle.std.proofs.{lemmas.Bool.false≢true, lemmas.List.reverse-append, lemmas.Option.none-some}
use Rattle.events.specs.declared.event.Event.{Event}
use Rattle.events.specs.declared.event.Event.TheVariants.{Fetch, Decode, Rename, Issue, Complete, Drop, Retire, Refetch}
use Rattle.smt_model.specs.{Basics.holds_of, Setup.Setup, Setup.registers_of, Jobs.job, Registers.is_unclaimed}
use Rattle.smt_model.specs.{Rules.refused}
use Rattle.smt_model.specs.Asks.{Ask, AskFetch, AskDecode, AskRename, AskIssue, AskComplete, AskRetire, answers}
use Rattle.smt_model.proofs.{Allowed.rename_allowed, Fates.Moves.complete_lent, Fates.Moves.drop_lent}
use Rattle.smt_laws.specs.Shown.{Predictor, IsDecided, IsLeastFree}
use Rattle.smt_laws.specs.Scripts.{IsReply, HasReplied, RepliesAreOne}
use Rattle.smt_laws.proofs.Showing.Answering.{is_fetch, is_decode, is_rename, is_issue, is_complete, is_retire}
use Rattle.smt_laws.proofs.Showing.Replies.{refused_one}
use Rattle.core_state.specs.{View.CoreView, Answers.TakesLeast}
use Rattle.core_state.specs.Answers.{IsLeastFree as IsLeastNamed}
use Rattle.smt_core.specs.Answers.{IsMade, IsGuess}
use Rattle.core_lock.specs.{declared.ask.Said.Said, Asks.PlainlyReplied}
use Rattle.core_lock.specs.declared.ask.Said.TheVariants as said
use Rattle.schedules.specs.Replies.{IsFunction, predictor_of}
use Rattle.scripts.specs.Session.{IsGuessed, AreGuessed}
use Rattle.scripts.proofs.Sessions.{after_nothing}

-- ---- Steps of a core

-- Where there was room, the core has replied; where there was none, nothing has changed.
pub record HasStepped (predict : Predictor) (ask : Ask) (core next : CoreView) : Type 0 where
  pub setup : next.setup ≡ core.setup
  pub limit : next.limit ≡ core.limit
  pub step :
      (
      (length core.past < core.limit) × IsReply core.setup predict ask core.past next.past
      ) ⊎ ((core.limit ≤ length core.past) × (next ≡ core))

abbrev pub HaveStepped : Predictor → List Ask → CoreView → CoreView → Type 0
HaveStepped predict [] core now = now ≡ core
HaveStepped predict (ask ∷ asks) core now =
    (next : CoreView) × HasStepped predict ask core next × HaveStepped predict asks next now

pub stepped_both : (predict : Predictor) (first second : List Ask) (core mid now : CoreView)
    → HaveStepped predict first core mid → HaveStepped predict second mid now
    → HaveStepped predict (first ++ second) core now
stepped_both predict [] second core mid now one two = subst (λ c. HaveStepped predict second c now) one two
stepped_both predict (ask ∷ first) second core mid now one two =
    (one.0, one.1, stepped_both predict first second one.0 mid now one.2 two)

-- A core without room stays as it is, whatever it is asked.
pub idle : (predict : Predictor) (asks : List Ask) (core : CoreView) → core.limit ≤ length core.past
    → HaveStepped predict asks core core
idle predict [] core full = refl
idle predict (ask ∷ asks) core full =
    (core, record { setup = refl; limit = refl; step = inr (full, refl) }, idle predict asks core full)

stays : (predict : Predictor) (asks : List Ask) (core now : CoreView) → HaveStepped predict asks core now
    → core.limit ≤ length core.past → now ≡ core
stays predict [] core now steps full = steps
stays predict (ask ∷ asks) core now steps full =
    elim steps.1.step [
      | inl room ↦ absurd (omega (arith, room.0, full))
      | inr same ↦
          stays predict asks steps.0 now steps.2 (subst (λ c. c.limit ≤ length c.past) (sym same.1) full) ∙ same.1
    ]

-- ---- The history that the asks have

-- These asks behind those before, all with the newest first.
abbrev behind : List Ask → List Ask → List Ask
behind before [] = before
behind before (ask ∷ asks) = behind (ask ∷ before) asks

behind-is : (before asks : List Ask) → behind before asks ≡ reverse asks ++ before
behind-is before [] = refl
behind-is before (ask ∷ asks) =
    behind-is (ask ∷ before) asks ∙ sym (append_assoc (reverse asks) (ask ∷ []) before)
    ∙ ap (λ l. l ++ before) (sym (reverse-append (ask ∷ []) asks))

ends : (asks : List Ask) → behind [] asks ≡ reverse asks
ends asks = behind-is [] asks ∙ after_nothing (reverse asks)

module _ (predict : Predictor) (setup : Setup) where
  replied : (asks before : List Ask) (core now : CoreView) → core.setup ≡ setup → HaveStepped predict asks core now
      → HasReplied setup predict before core.past → length now.past < now.limit
      → HasReplied setup predict (behind before asks) now.past
  replied [] before core now is steps so left = subst (λ c. HasReplied setup predict before c.past) (sym steps) so
  replied (ask ∷ asks) before core now is steps so left =
      let next = steps.0 in
      elim steps.1.step [
        | inl room ↦
            replied asks (ask ∷ before) next now (steps.1.setup ∙ is) steps.2
            (core.past, (so, subst (λ s. IsReply s predict ask core.past next.past) is room.1)) left
        | inr full ↦
            let same : now ≡ core =
            stays predict asks next now steps.2 (subst (λ c. c.limit ≤ length c.past) (sym full.1) full.0)
            ∙ full.1 in
            let room = subst (λ c. length c.past < c.limit) same left in
            absurd (omega (arith, room, full.0))
      ]

  -- What the asks before had left of this history: no more than it, and all of it where it is as long.
  record HasPart (before : List Ask) (now : List Event) : Type 0 where
    pub base : List Event
    pub replied : HasReplied setup predict before base
    pub within : length base ≤ length now
    pub same : length now ≤ length base → now ≡ base

  part_before : (ask : Ask) (before : List Ask) (now : List Event) → HasPart (ask ∷ before) now → HasPart before now
  part_before ask before now more =
      let past = more.replied.0 in
      elim more.replied.1.1 [
        | inl grows ↦
            let longer : length more.base ≡ length (grows.event ∷ past) = ap length grows.grown in
            let within = more.within in
            record {
              base = past;
              replied = more.replied.1.0;
              within = omega (arith, longer, within);
              same = λ few. absurd (omega (arith, longer, within, few));
            }
        | inr stands ↦
            let as_long : length more.base ≡ length past = ap length stands.same in
            let within = more.within in
            record {
              base = past;
              replied = more.replied.1.0;
              within = omega (arith, as_long, within);
              same = λ few. more.same (omega (arith, as_long, few)) ∙ stands.same;
            }
      ]

  part : (asks before : List Ask) (now : List Event) → HasReplied setup predict (behind before asks) now
      → HasPart before now
  part [] before now all = record { base = now; replied = all; within = omega arith; same = λ few. refl }
  part (ask ∷ asks) before now all = part_before ask before now (part asks (ask ∷ before) now all)

  alone : RepliesAreOne → (asks before : List Ask) (core now : CoreView) → core.setup ≡ setup
      → HaveStepped predict asks core now → HasReplied setup predict before core.past
      → (ideal : List Event) → HasReplied setup predict (behind before asks) ideal → length ideal ≤ core.limit
      → now.past ≡ ideal
  alone one [] before core now is steps so ideal all short =
      one setup predict before now.past ideal (subst (λ c. HasReplied setup predict before c.past) (sym steps) so) all
  alone one (ask ∷ asks) before core now is steps so ideal all short =
      let next = steps.0 in
      elim steps.1.step [
        | inl room ↦
            alone one asks (ask ∷ before) next now (steps.1.setup ∙ is) steps.2
            (core.past, (so, subst (λ s. IsReply s predict ask core.past next.past) is room.1)) ideal all
            (subst (λ l. length ideal ≤ l) (sym steps.1.limit) short)
        | inr full ↦
            let same : now ≡ core =
            stays predict asks next now steps.2 (subst (λ c. c.limit ≤ length c.past) (sym full.1) full.0)
            ∙ full.1 in
            let so_far = part (ask ∷ asks) before ideal all in
            let base : so_far.base ≡ core.past =
            one setup predict before so_far.base core.past so_far.replied so in
            let as_long : length so_far.base ≡ length core.past = ap length base in
            ap (λ c. c.past) same ∙ sym (so_far.same (omega (arith, as_long, short, full.0)) ∙ base)
      ]

-- From the beginning.
pub has_replied : (predict : Predictor) (asks : List Ask) (core now : CoreView) → core.past ≡ []
    → HaveStepped predict asks core now → length now.past < now.limit
    → HasReplied core.setup predict (reverse asks) now.past
has_replied predict asks core now none steps left =
    subst (λ l. HasReplied core.setup predict l now.past) (ends asks)
    (replied predict core.setup asks [] core now refl steps none left)

pub has_this : RepliesAreOne → (predict : Predictor) (asks : List Ask) (core now : CoreView) → core.past ≡ []
    → HaveStepped predict asks core now → (ideal : List Event)
    → HasReplied core.setup predict (reverse asks) ideal → length ideal ≤ core.limit → now.past ≡ ideal
has_this one predict asks core now none steps ideal all short =
    alone predict core.setup one asks [] core now refl steps none ideal
    (subst (λ l. HasReplied core.setup predict l ideal) (sym (ends asks)) all) short

-- ---- What a core's reply decides

-- The event of the reply is decided as the predictor says.
abbrev pub IsDecidedIn : Predictor → CoreView → Said → Type 0
IsDecidedIn predict core (said.Event e) = IsDecided core.setup predict core.past e
IsDecidedIn predict core _ = Unit {0}

pub made_stepped : (predict : Predictor) (ask : Ask) (core : CoreView) (e : Event) (next : CoreView)
    → IsMade ask core e next → IsDecided core.setup predict core.past e → HasStepped predict ask core next
made_stepped predict ask core e next made decided = record {
  setup = ap (λ c. c.setup) made.grows;
  limit = ap (λ c. c.limit) made.grows;
  step =
      inl (
        made.room,
        inl (record {
          event = e;
          allowed = made.allowed;
          suits = made.asked;
          decided = decided;
          grown = ap (λ c. c.past) made.grows;
        }),
      );
}

pub stepped : (predict : Predictor) (ask : Ask) (core : CoreView) (s : Said) (next : CoreView)
    → PlainlyReplied ask core s next → IsDecidedIn predict core s → HasStepped predict ask core next
stepped predict ask core (said.Event e) next replied decided =
    made_stepped predict ask core e next replied decided
stepped predict ask core (said.Job job e) next replied decided = absurd replied
stepped predict ask core said.Idle next replied decided = record {
  setup = ap (λ c. c.setup) replied.unchanged;
  limit = ap (λ c. c.limit) replied.unchanged;
  step = inl (replied.room, inr (record { none = replied.idle; same = ap (λ c. c.past) replied.unchanged }));
}
stepped predict ask core said.Stranger next replied decided = absurd replied
stepped predict ask core said.Full next replied decided =
    let full = replied.full in
    record {
      setup = ap (λ c. c.setup) replied.unchanged;
      limit = ap (λ c. c.limit) replied.unchanged;
      step = inr (omega (arith, full), replied.unchanged);
    }

some_is : (x y : ℕ) → Some x ≡ Some y → x ≡ y
some_is x y e = cc

least_of : (setup : Setup) (past : List Event) (phys : Option ℕ)
    → (not (is_some phys) || holds_of (λ p. nat_lt p (registers_of setup) && is_unclaimed setup past p) phys) ≡ true
    → IsLeastNamed setup past phys → (p : ℕ) → phys ≡ Some p → IsLeastFree setup past p
least_of setup past None unclaimed least p is = absurd (false≢true (ap is_some is))
least_of setup past (Some x) unclaimed least p is = subst (IsLeastFree setup past) (some_is x p is) (unclaimed, least)

pub rename_decided : (predict : Predictor) (k h : ℕ) (core : CoreView) (e : Event) (next : CoreView)
    → IsMade (AskRename k h) core e next → IsDecided core.setup predict core.past e
rename_decided predict k h core e next made =
    is_rename core.past k h e made.asked
    (λ x. refused core.setup core.past x ≡ None → TakesLeast core.setup core.past x
    → IsDecided core.setup predict core.past x)
    (λ n phys of_hart ok least.
    least_of core.setup core.past phys (rename_allowed core.setup core.past k n phys ok).unclaimed least)
    made.allowed made.decided

-- An ask whose events leave nothing to decide.
abbrev pub LeavesNothing : Predictor → Ask → Type 0
LeavesNothing predict ask =
    (setup : Setup) (past : List Event) (e : Event) → answers ask past e ≡ true → IsDecided setup predict past e

pub decode_leaves : (predict : Predictor) (k h : ℕ) → LeavesNothing predict (AskDecode k h)
decode_leaves predict k h setup past e answered =
    is_decode past k h e answered (IsDecided setup predict past) (λ n of_hart. tt)

pub retire_leaves : (predict : Predictor) (k h : ℕ) → LeavesNothing predict (AskRetire k h)
retire_leaves predict k h setup past e answered =
    is_retire past k h e answered (IsDecided setup predict past) (λ n effect of_hart. tt) (λ n of_hart. tt)

pub issue_leaves : (predict : Predictor) (k : ℕ) → LeavesNothing predict (AskIssue k)
issue_leaves predict k setup past e answered =
    is_issue past k e answered (IsDecided setup predict past) (λ n. tt)

pub complete_leaves : (predict : Predictor) (k : ℕ) → LeavesNothing predict (AskComplete k)
complete_leaves predict k setup past e answered =
    is_complete past k e answered (IsDecided setup predict past) (λ n outcome. tt) (λ n. tt)

-- A fetch goes on where the function guesses, and so do all fetches of these events.
abbrev pub Follows : (ℕ → ℕ → ℕ → ℕ) → Event → Type 0
Follows guess (Fetch actor hart seq pc word predicted) = predicted ≡ predictor_of guess hart pc word
Follows guess _ = Unit {0}

abbrev pub AllFollow : (ℕ → ℕ → ℕ → ℕ) → List Event → Type 0
AllFollow guess [] = Unit {0}
AllFollow guess (e ∷ past) = Follows guess e × AllFollow guess past

pub older_follow : (guess : ℕ → ℕ → ℕ → ℕ) (newer past : List Event) → AllFollow guess (newer ++ past)
    → AllFollow guess past
older_follow guess [] past all = all
older_follow guess (e ∷ newer) past all = older_follow guess newer past all.1

pub fetch_decided : (guess : ℕ → ℕ → ℕ → ℕ) (setup : Setup) (k : ℕ) (past : List Event) (e : Event)
    → answers (AskFetch k) past e ≡ true → Follows guess e → IsDecided setup (predictor_of guess) past e
fetch_decided guess setup k past e answered =
    is_fetch past k e answered (λ x. Follows guess x → IsDecided setup (predictor_of guess) past x)
    (λ hart n pc word predicted so. so)

module _ {P : Type 0} (predicts : P → ℕ → ℕ → ℕ → ℕ → P → Type 0) (guess : ℕ → ℕ → ℕ → ℕ)
    (function : IsFunction predicts guess) where
  guess_is : (before after : P) (hart pc : ℕ) (word : Option ℕ) (predicted : ℕ)
      → IsGuess predicts before hart pc word predicted after → predicted ≡ predictor_of guess hart pc word
  guess_is before after hart pc (Some word) predicted guessed =
      function before hart pc word predicted after guessed
  guess_is before after hart pc None predicted guessed = guessed.0

  follows : (e : Event) (before after : P) → IsGuessed predicts e before after → Follows guess e
  follows (Fetch actor hart seq pc word predicted) before after guessed =
      guess_is before after hart pc word predicted guessed
  follows (Decode actor seq) before after guessed = tt
  follows (Rename actor seq phys) before after guessed = tt
  follows (Issue actor seq) before after guessed = tt
  follows (Complete actor seq outcome) before after guessed = tt
  follows (Drop actor seq) before after guessed = tt
  follows (Retire actor seq effect) before after guessed = tt
  follows (Refetch actor seq) before after guessed = tt

  pub all_follow : (past : List Event) (before after : P) → AreGuessed predicts past before after
      → AllFollow guess past
  all_follow [] before after guessed = tt
  all_follow (e ∷ past) before after guessed =
      (follows e guessed.0 after guessed.2, all_follow past before guessed.0 guessed.1)

-- ---- Which jobs are open

-- An ask whose events leave every job as it was.
abbrev pub LeavesJobs : Ask → Type 0
LeavesJobs ask =
    (past : List Event) (e : Event) → answers ask past e ≡ true → (j : ℕ) → job (e ∷ past) j ≡ job past j

pub fetch_jobs : (k : ℕ) → LeavesJobs (AskFetch k)
fetch_jobs k past e answered j =
    is_fetch past k e answered (λ x. job (x ∷ past) j ≡ job past j) (λ hart n pc word predicted. refl)

pub decode_jobs : (k h : ℕ) → LeavesJobs (AskDecode k h)
decode_jobs k h past e answered j =
    is_decode past k h e answered (λ x. job (x ∷ past) j ≡ job past j) (λ n of_hart. refl)

pub rename_jobs : (k h : ℕ) → LeavesJobs (AskRename k h)
rename_jobs k h past e answered j =
    is_rename past k h e answered (λ x. job (x ∷ past) j ≡ job past j) (λ n phys of_hart. refl)

pub retire_jobs : (k h : ℕ) → LeavesJobs (AskRetire k h)
retire_jobs k h past e answered j =
    is_retire past k h e answered (λ x. job (x ∷ past) j ≡ job past j) (λ n effect of_hart. refl) (λ n of_hart. refl)

-- An issue opens no job of another actor.
pub issue_others : (k : ℕ) (past : List Event) (e : Event) → answers (AskIssue k) past e ≡ true → (j : ℕ)
    → (k == j) ≡ false → job (e ∷ past) j ≡ job past j
issue_others k past e answered j other =
    is_issue past k e answered (λ x. job (x ∷ past) j ≡ job past j) (λ n. rw other refl)

-- A completion leaves no job of its own.
if_closed : (mine : Bool) (other : Option ℕ) → (mine ≡ false → other ≡ None)
    → (if mine then None else other) ≡ None
if_closed true other others = refl
if_closed false other others = others refl

pub complete_closes : (k : ℕ) (past : List Event) (e : Event) → answers (AskComplete k) past e ≡ true → (j : ℕ)
    → ((k == j) ≡ false → job past j ≡ None) → job (e ∷ past) j ≡ None
complete_closes k past e answered j others =
    is_complete past k e answered (λ x. job (x ∷ past) j ≡ None)
    (λ n outcome. if_closed (k == j) (job past j) others) (λ n. if_closed (k == j) (job past j) others)

-- An actor without a job completes nothing.
pub none_to_complete : (setup : Setup) (past : List Event) (k : ℕ) → job past k ≡ None → (e : Event)
    → answers (AskComplete k) past e ≡ true → is_some (refused setup past e) ≡ true
none_to_complete setup past k none e answered =
    is_complete past k e answered (λ x. is_some (refused setup past x) ≡ true)
    (λ n outcome. refused_one (refused setup past (Complete k n outcome))
    (λ ok. none-some n (sym none ∙ complete_lent setup past k n outcome ok)))
    (λ n. refused_one (refused setup past (Drop k n)) (λ ok. none-some n (sym none ∙ drop_lent setup past k n ok)))
