-- Each action of a script that issues by units alone makes its asks of the core.
use Rattle.std.specs.Prelude.{◌≡◌, ◌⊎◌, ◌<◌, ◌≤◌, ◌==◌, ℕ, zero, suc, false, List, [], ◌∷◌, ◌++◌, length}
use Rattle.std.specs.Prelude.{flat_map, replicate, slice_index_or, slice_set, Option, Some, None}
use Rattle.std.specs.List.{AllByRecursion, AllZip}
use Rattle.std.proofs.Common.{◌∙◌, refl, sym, ap, subst, inl, inr, append_assoc, arith}
use Rattle.std.proofs.lemmas.Bool.{cases_lt}
use Rattle.std.proofs.lemmas.List.{get_or-set_same, length-set}
use Rattle.std.proofs.lemmas.List.Concat.{flat_map-append}
use Rattle.numbers.specs.Sizes.{most_actors}
use Rattle.events.specs.declared.event.Event.{Event}
use Rattle.exec_units.specs.Job.{JobView, DoneView}
use Rattle.smt_model.specs.{Jobs.job}
use Rattle.smt_model.specs.Asks.{Ask, AskFetch, AskDecode, AskRename, AskIssue, AskComplete, AskRetire}
use Rattle.smt_laws.specs.Shown.{Predictor}
use Rattle.smt_laws.specs.Scripts.{RepliesAreOne}
use Rattle.core_state.specs.{View.CoreView, Answers.IsJobOf}
use Rattle.smt_core.specs.Answers.{IsMade}
use Rattle.core_lock.specs.{declared.ask.Said.Said}
use Rattle.core_lock.specs.Asks.{Replied, PlainlyReplied, IssueReplied, CompleteReplied}
use Rattle.core_lock.specs.declared.ask.Said.TheVariants as said
use Rattle.scripts.specs.{declared.actions.Action.Action, declared.actions.ScriptWord.ScriptWord}
use Rattle.scripts.specs.Script.{IsInRange, SpellsWord, pieces}
use Rattle.scripts.specs.declared.actions.Action.TheVariants as action
use Rattle.scripts.specs.Session.{Holding, nobody, job_in, Holds, HandsOver, HandsBack, HandsBackWhere}
use Rattle.scripts.specs.Session.{IsUnit, Acts, AllAct, repeated, actions_of, unasked, AreAskedWith}
use Rattle.schedules.specs.Asks.{asks_of_action, asks_of_word, asks_of, IsNoIssue, HasNoIssue}
use Rattle.schedules.specs.Replies.{IsFunction, predictor_of}
use Rattle.schedules.specs.Replies.{RepliesToItsScript, FillsNoMoreThanItsScript}
use Rattle.schedules.proofs.Replying.{HasStepped, HaveStepped, stepped_both, idle, has_replied, has_this}
use Rattle.schedules.proofs.Replying.{IsDecidedIn, made_stepped, stepped, rename_decided, LeavesNothing}
use Rattle.schedules.proofs.Replying.{decode_leaves, retire_leaves, issue_leaves, complete_leaves, fetch_decided}
use Rattle.schedules.proofs.Replying.{AllFollow, older_follow, all_follow}
use Rattle.schedules.proofs.Replying.{LeavesJobs, fetch_jobs, decode_jobs, rename_jobs, retire_jobs, issue_others}
use Rattle.schedules.proofs.Replying.{complete_closes, none_to_complete}

-- ---- Between two actions

-- No actor holds anything, and none has an open job.
record IsEmptyHanded (core : CoreView) (held : Holding) : Type 0 where
  pub places : length held ≡ most_actors
  pub empty : (k : ℕ) → slice_index_or held k None ≡ None
  pub closed : (k : ℕ) → job core.past k ≡ None

-- So it is, or there is no room left, and then it doesn't matter.
abbrev Stands : CoreView → Holding → Type 0
Stands core held = IsEmptyHanded core held ⊎ (core.limit ≤ length core.past)

-- These asks were made, and so it stands after them.
record HasActed (predict : Predictor) (asks : List Ask) (core now : CoreView) (held : Holding) : Type 0 where
  pub steps : HaveStepped predict asks core now
  pub stands : Stands now held

emptied-here : (held : Holding) (k : ℕ) → ((j : ℕ) → slice_index_or held j None ≡ None) → (j : ℕ)
    → slice_index_or (slice_set held k None) j None ≡ None
emptied-here [] k empty j = empty j
emptied-here (x ∷ held) zero empty zero = refl
emptied-here (x ∷ held) zero empty (suc j) = empty (suc j)
emptied-here (x ∷ held) (suc k) empty zero = empty zero
emptied-here (x ∷ held) (suc k) empty (suc j) = emptied-here held k (λ i. empty (suc i)) j

filled-here : (held : Holding) (k : ℕ) (d : Option DoneView) → ((j : ℕ) → slice_index_or held j None ≡ None) → (j : ℕ)
    → slice_index_or (slice_set (slice_set held k d) k None) j None ≡ None
filled-here [] k d empty j = empty j
filled-here (x ∷ held) zero d empty zero = refl
filled-here (x ∷ held) zero d empty (suc j) = empty (suc j)
filled-here (x ∷ held) (suc k) d empty zero = empty zero
filled-here (x ∷ held) (suc k) d empty (suc j) = filled-here held k d (λ i. empty (suc i)) j

pub held-there : (held : Holding) (k : ℕ) (done : DoneView) → k < length held
    → slice_index_or (slice_set held k (Some done)) k None ≡ Some done
held-there held k done inside = get_or-set_same held k (Some done) None inside

replicated : (d : Option DoneView) (n k : ℕ) → slice_index_or (replicate n d) k d ≡ d
replicated d zero k = refl
replicated d (suc n) zero = refl
replicated d (suc n) (suc k) = replicated d n k

pub nobody-empty : (k : ℕ) → slice_index_or nobody k None ≡ None
nobody-empty k = replicated None most_actors k

-- ---- An ask that lends and takes no job

stands_on : (core next : CoreView) (e : Event) (held : Holding) → next.past ≡ e ∷ core.past
    → ((j : ℕ) → job (e ∷ core.past) j ≡ job core.past j) → IsEmptyHanded core held → IsEmptyHanded next held
stands_on core next e held grows leaves so = record {
  places = so.places;
  empty = so.empty;
  closed = λ k. ap (λ p. job p k) grows ∙ leaves k ∙ so.closed k;
}

plain_stands : (ask : Ask) (core : CoreView) (s : Said) (next : CoreView) (held : Holding)
    → PlainlyReplied ask core s next → LeavesJobs ask → IsEmptyHanded core held → Stands next held
plain_stands ask core (said.Event e) next held replied leaves so =
    inl (stands_on core next e held (ap (λ c. c.past) replied.grows) (leaves core.past e replied.asked) so)
plain_stands ask core (said.Job job e) next held replied leaves so = absurd replied
plain_stands ask core said.Idle next held replied leaves so =
    inl (subst (λ c. IsEmptyHanded c held) (sym replied.unchanged) so)
plain_stands ask core said.Stranger next held replied leaves so = absurd replied
plain_stands ask core said.Full next held replied leaves so =
    let full = replied.full in
    inr (subst (λ c. c.limit ≤ length c.past) (sym replied.unchanged) (omega (arith, full)))

pub leaves_decided : (predict : Predictor) (ask : Ask) (core : CoreView) (s : Said) (next : CoreView)
    → PlainlyReplied ask core s next → LeavesNothing predict ask → IsDecidedIn predict core s
leaves_decided predict ask core (said.Event e) next replied leaves = leaves core.setup core.past e replied.asked
leaves_decided predict ask core (said.Job job e) next replied leaves = tt
leaves_decided predict ask core said.Idle next replied leaves = tt
leaves_decided predict ask core said.Stranger next replied leaves = tt
leaves_decided predict ask core said.Full next replied leaves = tt

pub rename_replied : (predict : Predictor) (k h : ℕ) (core : CoreView) (s : Said) (next : CoreView)
    → PlainlyReplied (AskRename k h) core s next → IsDecidedIn predict core s
rename_replied predict k h core (said.Event e) next replied = rename_decided predict k h core e next replied
rename_replied predict k h core (said.Job job e) next replied = tt
rename_replied predict k h core said.Idle next replied = tt
rename_replied predict k h core said.Stranger next replied = tt
rename_replied predict k h core said.Full next replied = tt

-- Of a fetch, where all fetches of the history that it leaves go on where the function guesses.
pub fetch_replied : (guess : ℕ → ℕ → ℕ → ℕ) (k : ℕ) (core : CoreView) (s : Said) (next : CoreView)
    → PlainlyReplied (AskFetch k) core s next → AllFollow guess next.past → IsDecidedIn (predictor_of guess) core s
fetch_replied guess k core (said.Event e) next replied all =
    let grown = subst (λ c. AllFollow guess c.past) replied.grows all in
    fetch_decided guess core.setup k core.past e replied.asked grown.0
fetch_replied guess k core (said.Job job e) next replied all = tt
fetch_replied guess k core said.Idle next replied all = tt
fetch_replied guess k core said.Stranger next replied all = tt
fetch_replied guess k core said.Full next replied all = tt

plainly_acted : (predict : Predictor) (ask : Ask) (core : CoreView) (s : Said) (now : CoreView)
    (held after : Holding) → after ≡ held → LeavesJobs ask → IsDecidedIn predict core s
    → PlainlyReplied ask core s now → IsEmptyHanded core held → HasActed predict (ask ∷ []) core now after
plainly_acted predict ask core s now held after kept leaves decided replied so = record {
  steps = (now, stepped predict ask core s now replied decided, refl);
  stands = subst (Stands now) (sym kept) (plain_stands ask core s now held replied leaves so);
}

-- ---- Handing back

-- Of an actor that has no job.
nothing_acted : (predict : Predictor) (k : ℕ) (core : CoreView) (held : Holding) → IsEmptyHanded core held
    → HasStepped predict (AskComplete k) core core
nothing_acted predict k core held so =
    elim (cases_lt (length core.past) core.limit) [
      | inl room ↦ record {
        setup = refl;
        limit = refl;
        step =
            inl (room, inr (record { none = none_to_complete core.setup core.past k (so.closed k); same = refl }));
      }
      | inr full ↦ record { setup = refl; limit = refl; step = inr (omega (arith, full), refl) }
    ]

back_nothing : (predict : Predictor) (k : ℕ) (core now : CoreView) (held after : Holding) (text : List ℕ)
    → HandsBack Replied k held after core now text → IsEmptyHanded core held
    → HasActed predict (AskComplete k ∷ []) core now after
back_nothing predict k core now held after text back so =
    let over = subst (λ slot. HandsOver Replied k slot core now text) (so.empty k) back.over in
    let same : now ≡ core = over.0 in
    record {
      steps = (core, nothing_acted predict k core held so, same);
      stands =
          inl (subst (λ c. IsEmptyHanded c after) (sym same) (record {
            places = ap length back.empty ∙ length-set held k None ∙ so.places;
            empty = λ j. ap (λ l. slice_index_or l j None) back.empty ∙ emptied-here held k so.empty j;
            closed = so.closed;
          }));
    }

-- Of one that was just lent a job.
module _ (predict : Predictor) (k : ℕ) (core : CoreView) (done : DoneView) (lent : IsJobOf core.setup core.past k done.job)
  where
    back_stepped : (s : Said) (next : CoreView) → CompleteReplied k done.job core s next
        → HasStepped predict (AskComplete k) core next
    back_stepped (said.Event e) next replied =
        made_stepped predict (AskComplete k) core e next replied.made
        (complete_leaves predict k core.setup core.past e replied.made.asked)
    back_stepped (said.Job job e) next replied = absurd replied
    back_stepped said.Idle next replied = absurd replied
    back_stepped said.Stranger next replied = absurd (replied.strange lent)
    back_stepped said.Full next replied =
        let full = replied.full in
        record {
          setup = ap (λ c. c.setup) replied.unchanged;
          limit = ap (λ c. c.limit) replied.unchanged;
          step = inr (omega (arith, full), replied.unchanged);
        }

    back_stands : (s : Said) (next : CoreView) (held : Holding)
        → CompleteReplied k done.job core s next → length held ≡ most_actors
        → ((j : ℕ) → slice_index_or held j None ≡ None) → ((j : ℕ) → (k == j) ≡ false → job core.past j ≡ None)
        → Stands next held
    back_stands (said.Event e) next held replied places empty others =
        inl (record {
          places = places;
          empty = empty;
          closed = λ j. ap (λ c. job c.past j) replied.made.grows
              ∙ complete_closes k core.past e replied.made.asked j (others j);
        })
    back_stands (said.Job job e) next held replied places empty others = absurd replied
    back_stands said.Idle next held replied places empty others = absurd replied
    back_stands said.Stranger next held replied places empty others = absurd (replied.strange lent)
    back_stands said.Full next held replied places empty others =
        let full = replied.full in
        inr (subst (λ c. c.limit ≤ length c.past) (sym replied.unchanged) (omega (arith, full)))

-- ---- A unit

-- A job that came is handed back.
came_acted : (predict : Predictor) (k : ℕ) (core mid now : CoreView) (held between after : Holding)
    (job_came : JobView) (e : Event) (done : DoneView) (text : List ℕ) → k < most_actors
    → IssueReplied k core (said.Job job_came e) mid → done.job ≡ job_came
    → between ≡ slice_set held k (Some done) → HandsBack Replied k between after mid now text
    → IsEmptyHanded core held → HasActed predict (AskIssue k ∷ AskComplete k ∷ []) core now after
came_acted predict k core mid now held between after job_came e done text inside issued is holds back so =
    let places = so.places in
    let under : k < length held = omega (arith, inside, places) in
    let slot : slice_index_or between k None ≡ Some done =
    ap (λ l. slice_index_or l k None) holds ∙ held-there held k done under in
    let over = subst (λ s. HandsOver Replied k s mid now text) slot back.over in
    let replied = over.1.replied in
    let lent = subst (IsJobOf mid.setup mid.past k) (sym is) issued.lent in
    let last : after ≡ slice_set (slice_set held k (Some done)) k None =
    back.empty ∙ ap (λ l. slice_set l k None) holds in
    record {
      steps = (
        mid,
        made_stepped predict (AskIssue k) core e mid issued.made
            (issue_leaves predict k core.setup core.past e issued.made.asked),
        (now, back_stepped predict k mid done lent over.0 now replied, refl),
      );
      stands =
          back_stands predict k mid done lent over.0 now after replied
          (ap length last ∙ length-set _ k None ∙ length-set held k (Some done) ∙ so.places)
          (λ j. ap (λ l. slice_index_or l j None) last ∙ filled-here held k (Some done) so.empty j)
          (λ j other. ap (λ c. job c.past j) issued.made.grows
          ∙ issue_others k core.past e issued.made.asked j other ∙ so.closed j);
    }

-- Where none came, there is none to hand back.
idle_acted : (predict : Predictor) (k : ℕ) (core mid now : CoreView) (held after : Holding)
    → HasStepped predict (AskIssue k) core mid → mid ≡ core → now ≡ mid → after ≡ held → IsEmptyHanded core held
    → HasActed predict (AskIssue k ∷ AskComplete k ∷ []) core now after
idle_acted predict k core mid now held after step same ends kept so =
    let here = subst (λ c. IsEmptyHanded c held) (sym same) so in
    record {
      steps = (mid, step, (mid, nothing_acted predict k mid held here, ends));
      stands = inl (subst (IsEmptyHanded now) (sym kept) (subst (λ c. IsEmptyHanded c held) (sym ends) here));
    }

full_acted : (predict : Predictor) (asks : List Ask) (core now : CoreView) (after : Holding)
    → core.limit ≤ length core.past → now ≡ core → HasActed predict asks core now after
full_acted predict asks core now after full same = record {
  steps = subst (HaveStepped predict asks core) (sym same) (idle predict asks core full);
  stands = inr (subst (λ c. c.limit ≤ length c.past) (sym same) full);
}

unit_by : (predict : Predictor) (k : ℕ) (core mid now : CoreView) (held between after : Holding)
    (s : Said) (text : List ℕ) → k < most_actors → IssueReplied k core s mid → Holds k (job_in s) held between
    → HandsBackWhere Replied (job_in s) k between after mid now text → IsEmptyHanded core held
    → HasActed predict (AskIssue k ∷ AskComplete k ∷ []) core now after
unit_by predict k core mid now held between after (said.Job j e) text inside replied holds back so =
    came_acted predict k core mid now held between after j e holds.0 text inside replied holds.1 holds.2 back so
unit_by predict k core mid now held between after (said.Event e) text inside replied holds back so = absurd replied
unit_by predict k core mid now held between after said.Idle text inside replied holds back so =
    idle_acted predict k core mid now held after (stepped predict (AskIssue k) core said.Idle mid replied tt)
    replied.unchanged back.1 (back.0 ∙ holds) so
unit_by predict k core mid now held between after said.Stranger text inside replied holds back so = absurd replied
unit_by predict k core mid now held between after said.Full text inside replied holds back so =
    let full = replied.full in
    full_acted predict (AskIssue k ∷ AskComplete k ∷ []) core now after (omega (arith, full))
    (back.1 ∙ replied.unchanged)

unit_acted : (predict : Predictor) (k : ℕ) (core now : CoreView) (held after : Holding) (text : List ℕ) → k < most_actors
    → IsUnit Replied k held after core now text → IsEmptyHanded core held
    → HasActed predict (AskIssue k ∷ AskComplete k ∷ []) core now after
unit_acted predict k core now held after text inside unit so =
    unit_by predict k core unit.mid now held unit.between after unit.said unit.second inside
    unit.issue.asked.replied unit.issue.holds unit.back so

-- ---- Each action

module _ (guess : ℕ → ℕ → ℕ → ℕ) where
  leaving_acted : (ask : Ask) (core now : CoreView) (held after : Holding) (s : Said) → LeavesJobs ask
      → LeavesNothing (predictor_of guess) ask → after ≡ held → PlainlyReplied ask core s now
      → IsEmptyHanded core held → HasActed (predictor_of guess) (ask ∷ []) core now after
  leaving_acted ask core now held after s jobs leaves same replied so =
      plainly_acted (predictor_of guess) ask core s now held after same jobs
      (leaves_decided (predictor_of guess) ask core s now replied leaves) replied so

  acted : (x : Action) (core now : CoreView) (held after : Holding) (text : List ℕ) → IsNoIssue x → IsInRange x
      → Acts Replied x held after core now text → AllFollow guess now.past → IsEmptyHanded core held
      → HasActed (predictor_of guess) (asks_of_action x) core now after
  acted (action.Fetch k) core now held after text alone inside acts all so =
      let s = acts.1.0 in
      let replied = acts.1.1.replied in
      plainly_acted (predictor_of guess) (AskFetch k) core s now held after acts.0 (fetch_jobs k)
      (fetch_replied guess k core s now replied all) replied so
  acted (action.Decode k h) core now held after text alone inside acts all so =
      leaving_acted (AskDecode k h) core now held after acts.1.0 (decode_jobs k h)
      (decode_leaves (predictor_of guess) k h) acts.0 acts.1.1.replied so
  acted (action.Rename k h) core now held after text alone inside acts all so =
      let s = acts.1.0 in
      let replied = acts.1.1.replied in
      plainly_acted (predictor_of guess) (AskRename k h) core s now held after acts.0 (rename_jobs k h)
      (rename_replied (predictor_of guess) k h core s now replied) replied so
  acted (action.Retire k h) core now held after text alone inside acts all so =
      leaving_acted (AskRetire k h) core now held after acts.1.0 (retire_jobs k h)
      (retire_leaves (predictor_of guess) k h) acts.0 acts.1.1.replied so
  acted (action.Issue k) core now held after text alone inside acts all so = absurd alone
  acted (action.Complete k) core now held after text alone inside acts all so =
      back_nothing (predictor_of guess) k core now held after text acts so
  acted (action.Unit k) core now held after text alone inside acts all so =
      unit_acted (predictor_of guess) k core now held after text inside acts so

-- ---- All actions

-- A history has grown by what came after it. Where there was no room, the core is as it was.
pub record HasGrown (core now : CoreView) : Type 0 where
  pub newer : List Event
  pub grown : now.past ≡ newer ++ core.past
  pub full : core.limit ≤ length core.past → now ≡ core

stands_grown : (core now : CoreView) → now ≡ core → HasGrown core now
stands_grown core now same = record { newer = []; grown = ap (λ c. c.past) same; full = λ none. same }

grown_on : (core mid now : CoreView) → HasGrown core mid → HasGrown mid now → HasGrown core now
grown_on core mid now one two = record {
  newer = two.newer ++ one.newer;
  grown = two.grown ∙ ap (λ l. two.newer ++ l) one.grown ∙ sym (append_assoc two.newer one.newer core.past);
  full = λ none.
      let same = one.full none in
      two.full (subst (λ c. c.limit ≤ length c.past) (sym same) none) ∙ same;
}

grown_made : (ask : Ask) (core : CoreView) (e : Event) (now : CoreView) → IsMade ask core e now → HasGrown core now
grown_made ask core e now made =
    let room = made.room in
    record {
      newer = e ∷ [];
      grown = ap (λ c. c.past) made.grows;
      full = λ none. absurd (omega (arith, room, none));
    }

plainly_grown : (ask : Ask) (core : CoreView) (s : Said) (now : CoreView) → PlainlyReplied ask core s now
    → HasGrown core now
plainly_grown ask core (said.Event e) now replied = grown_made ask core e now replied
plainly_grown ask core (said.Job job e) now replied = absurd replied
plainly_grown ask core said.Idle now replied = stands_grown core now replied.unchanged
plainly_grown ask core said.Stranger now replied = absurd replied
plainly_grown ask core said.Full now replied = stands_grown core now replied.unchanged

issue_grown : (k : ℕ) (core : CoreView) (s : Said) (now : CoreView) → IssueReplied k core s now → HasGrown core now
issue_grown k core (said.Event e) now replied = absurd replied
issue_grown k core (said.Job job e) now replied = grown_made (AskIssue k) core e now replied.made
issue_grown k core said.Idle now replied = stands_grown core now replied.unchanged
issue_grown k core said.Stranger now replied = absurd replied
issue_grown k core said.Full now replied = stands_grown core now replied.unchanged

complete_grown : (k : ℕ) (job : JobView) (core : CoreView) (s : Said) (now : CoreView)
    → CompleteReplied k job core s now → HasGrown core now
complete_grown k job core (said.Event e) now replied = grown_made (AskComplete k) core e now replied.made
complete_grown k job core (said.Job other e) now replied = absurd replied
complete_grown k job core said.Idle now replied = absurd replied
complete_grown k job core said.Stranger now replied = stands_grown core now replied.unchanged
complete_grown k job core said.Full now replied = stands_grown core now replied.unchanged

back_grown : (k : ℕ) (held : Option DoneView) (core now : CoreView) (text : List ℕ) → HandsOver Replied k held core now text
    → HasGrown core now
back_grown k None core now text over = stands_grown core now over.0
back_grown k (Some done) core now text over = complete_grown k done.job core over.0 now over.1.replied

where_grown : (job : Option JobView) (k : ℕ) (held after : Holding) (core now : CoreView) (text : List ℕ)
    → HandsBackWhere Replied job k held after core now text → HasGrown core now
where_grown None k held after core now text back = stands_grown core now back.1
where_grown (Some job) k held after core now text back =
    back_grown k (slice_index_or held k None) core now text back.over

acts_grown : (x : Action) (held after : Holding) (core now : CoreView) (text : List ℕ) → Acts Replied x held after core now text
    → HasGrown core now
acts_grown (action.Fetch k) held after core now text acts =
    plainly_grown (AskFetch k) core acts.1.0 now acts.1.1.replied
acts_grown (action.Decode k h) held after core now text acts =
    plainly_grown (AskDecode k h) core acts.1.0 now acts.1.1.replied
acts_grown (action.Rename k h) held after core now text acts =
    plainly_grown (AskRename k h) core acts.1.0 now acts.1.1.replied
acts_grown (action.Retire k h) held after core now text acts =
    plainly_grown (AskRetire k h) core acts.1.0 now acts.1.1.replied
acts_grown (action.Issue k) held after core now text acts =
    issue_grown k core acts.0 now acts.1.asked.replied
acts_grown (action.Complete k) held after core now text acts =
    back_grown k (slice_index_or held k None) core now text acts.over
acts_grown (action.Unit k) held after core now text acts =
    grown_on core acts.mid now (issue_grown k core acts.said acts.mid acts.issue.asked.replied)
    (where_grown (job_in acts.said) k acts.between after acts.mid now acts.second acts.back)

pub all_grown : (actions : List Action) (held after : Holding) (core now : CoreView) (text : List ℕ)
    → AllAct Replied actions held after core now text → HasGrown core now
all_grown [] held after core now text acts = stands_grown core now acts.1
all_grown (x ∷ others) held after core now text acts =
    grown_on core acts.1 now (acts_grown x held acts.0 core acts.1 acts.2 acts.4)
    (all_grown others acts.0 after acts.1 now acts.3 acts.5)

abbrev IsGoodAction : Action → Type 0
IsGoodAction x = IsNoIssue x × IsInRange x

module _ (guess : ℕ → ℕ → ℕ → ℕ) where
  all_acted : (actions : List Action) (core now : CoreView) (held after : Holding) (text : List ℕ)
      → AllByRecursion IsGoodAction actions → AllAct Replied actions held after core now text → AllFollow guess now.past
      → Stands core held → HaveStepped (predictor_of guess) (flat_map asks_of_action actions) core now
  all_acted actions core now held after text good acts all (inr full) =
      subst (HaveStepped (predictor_of guess) (flat_map asks_of_action actions) core)
      (sym ((all_grown actions held after core now text acts).full full))
      (idle (predictor_of guess) (flat_map asks_of_action actions) core full)
  all_acted [] core now held after text good acts all (inl so) = acts.1
  all_acted (x ∷ others) core now held after text good acts all (inl so) =
      let mid = acts.1 in
      let later = all_grown others acts.0 after mid now acts.3 acts.5 in
      let before = older_follow guess later.newer mid.past (subst (AllFollow guess) later.grown all) in
      let here = acted guess x core mid held acts.0 acts.2 good.0.0 good.0.1 acts.4 before so in
      stepped_both (predictor_of guess) (asks_of_action x) (flat_map asks_of_action others) core mid now here.steps
      (all_acted others mid now acts.0 after acts.3 good.1 acts.5 all here.stands)

-- ---- The actions of a script's words

all_again : (n : ℕ) (x : Action) → IsGoodAction x → AllByRecursion IsGoodAction (replicate n x)
all_again zero x good = tt
all_again (suc n) x good = (good, all_again n x good)

all_both : (xs ys : List Action) → AllByRecursion IsGoodAction xs → AllByRecursion IsGoodAction ys
    → AllByRecursion IsGoodAction (xs ++ ys)
all_both [] ys one two = two
all_both (x ∷ xs) ys one two = (one.0, all_both xs ys one.1 two)

all_good : (texts : List (List ℕ)) (words : List ScriptWord) → AllZip SpellsWord texts words → HasNoIssue words
    → AllByRecursion IsGoodAction (actions_of words)
all_good [] [] spelled alone = tt
all_good [] (word ∷ words) spelled alone = absurd spelled
all_good (text ∷ texts) [] spelled alone = absurd spelled
all_good (text ∷ texts) (word ∷ words) spelled alone =
    all_both (repeated word) (actions_of words)
    (all_again word.repeat word.action (alone.0, spelled.0.in_range))
    (all_good texts words spelled.1 alone.1)

-- Their asks are those of the words.
pub asks_are : (words : List ScriptWord) → flat_map asks_of_action (actions_of words) ≡ asks_of words
asks_are [] = refl
asks_are (word ∷ words) =
    flat_map-append asks_of_action (repeated word) (actions_of words)
    ∙ ap (λ asks. asks_of_word word ++ asks) (asks_are words)

-- ---- The laws

module _ {P : Type 0} (predicts : P → ℕ → ℕ → ℕ → ℕ → P → Type 0) where
  script_steps : (guess : ℕ → ℕ → ℕ → ℕ) → IsFunction predicts guess → (before after : P) (script : List ℕ)
      (core : CoreView) (text : List ℕ) (made : AreAskedWith predicts before after script core text)
      → HasNoIssue made.asked.words
      → HaveStepped (predictor_of guess) (asks_of made.asked.words) (unasked core) core
  script_steps guess function before after script core text made alone =
      let asked = made.asked in
      subst (λ asks. HaveStepped (predictor_of guess) asks (unasked core) core) (asks_are asked.words)
      (all_acted guess (actions_of asked.words) (unasked core) core nobody asked.asked.0 text
      (all_good (pieces script) asked.words asked.is_script alone) asked.asked.1
      (all_follow predicts guess function core.past before after made.guessed)
      (inl (record { places = refl; empty = nobody-empty; closed = λ k. refl })))

  pub replies : RepliesToItsScript predicts
  replies guess function before after script core text made alone left =
      has_replied (predictor_of guess) (asks_of made.asked.words) (unasked core) core refl
      (script_steps guess function before after script core text made alone) left

  pub fills : RepliesAreOne → FillsNoMoreThanItsScript predicts
  fills one guess function before after script core text made alone now all short =
      has_this one (predictor_of guess) (asks_of made.asked.words) (unasked core) core refl
      (script_steps guess function before after script core text made alone) now all short
