-- Each action of a script of a history makes just the events that it asks for.
use Rattle.std.specs.Prelude.{◌≡◌, ◌<◌, ◌≤◌, ◌+◌, ◌==◌, ℕ, true, false, List, [], ◌∷◌, ◌++◌, length, flat_map}
use Rattle.std.specs.Prelude.{slice_index_or, slice_set, Option, Some, None, is_some}
use Rattle.std.specs.List.{AllByRecursion}
use Rattle.std.proofs.Common.{◌∙◌, refl, sym, ap, subst, inl, inr, append_assoc, arith}
use Rattle.std.proofs.{lemmas.Bool.cases_eq, lemmas.Bool.false≢true, lemmas.Bool.Decides.nat_tests}
use Rattle.std.proofs.{lemmas.Option.none-some}
use Rattle.std.proofs.lemmas.List.{get_or-set_other, length-set}
use Rattle.numbers.specs.Sizes.{most_actors}
use Rattle.events.specs.declared.event.Event.{Event}
use Rattle.exec_units.specs.Job.{JobView, DoneView}
use Rattle.smt_model.specs.{Setup.Setup, Jobs.job, Rules.refused, Rules.is_allowed, Rules.is_legal}
use Rattle.smt_model.specs.Asks.{Ask, AskFetch, AskDecode, AskRename, AskIssue, AskComplete, AskRetire, answers}
use Rattle.smt_laws.specs.Shown.{Predictor, AsksHaveOneAnswer}
use Rattle.core_state.specs.{View.CoreView, Answers.AllowsNone, Answers.IsJobOf}
use Rattle.smt_core.specs.Answers.{IsMade}
use Rattle.core_lock.specs.{declared.ask.Said.Said}
use Rattle.core_lock.specs.Asks.{Replied, PlainlyReplied, IssueReplied, CompleteReplied}
use Rattle.core_lock.specs.declared.ask.Said.TheVariants as said
use Rattle.core_lock.specs.declared.ask.Ask.TheVariants as ask
use Rattle.scripts.specs.{declared.actions.Action.Action, declared.actions.ScriptWord.ScriptWord}
use Rattle.scripts.specs.Script.{IsInRange}
use Rattle.scripts.specs.declared.actions.Action.TheVariants as action
use Rattle.scripts.specs.Session.{Holding, job_in, Holds, HandsOver, HandsBack, HandsBackWhere, HasAsked}
use Rattle.scripts.specs.Session.{IsUnit, IsIssue, Acts, AllAct}
use Rattle.schedules.specs.{Asks.asks_of_action, Replies.predictor_of}
use Rattle.schedules.proofs.Replying.{IsDecidedIn, LeavesNothing, decode_leaves, retire_leaves, issue_leaves}
use Rattle.schedules.proofs.Replying.{complete_leaves, AllFollow, older_follow}
use Rattle.schedules.proofs.Replying.{LeavesJobs, fetch_jobs, decode_jobs, rename_jobs, retire_jobs, issue_others}
use Rattle.schedules.proofs.Replying.{complete_closes}
use Rattle.schedules.proofs.Scripted.{fetch_replied, leaves_decided, rename_replied, held-there, all_grown}
use Rattle.history_scripts.proofs.Jobs.{job_kept, complete_others, completes_its_job}
use Rattle.history_scripts.proofs.Following.{onto, IsNext, Follow}

-- A step that may be made isn't idle.
never_idle : (setup : Setup) (past : List Event) (asked : Ask) (e : Event) → is_allowed setup past e
    → answers asked past e ≡ true → AllowsNone setup asked past → ⊥
never_idle setup past asked e allowed suits none =
    false≢true (sym (ap is_some allowed) ∙ none e suits)

module _ (law : AsksHaveOneAnswer) (setup : Setup) (limit : ℕ) (guess : ℕ → ℕ → ℕ → ℕ) where
  abbrev pub core_of : List Event → CoreView
  core_of past = record { setup = setup; limit = limit; past = past }

  abbrev pub by_guess : Predictor
  by_guess = predictor_of guess

  -- What an actor holds is the job that it has open.
  pub record HoldsJob (past : List Event) (held : Holding) (k : ℕ) : Type 0 where
    pub done : DoneView
    pub slot : slice_index_or held k None ≡ Some done
    pub lent : IsJobOf setup past k done.job

  -- Between two actions: the core has this history, and each open job is held.
  pub record Stands (past : List Event) (core : CoreView) (held : Holding) : Type 0 where
    pub legal : is_legal setup past
    pub core_is : core ≡ core_of past
    pub places : length held ≡ most_actors
    pub holds : (k seq : ℕ) → job past k ≡ Some seq → HoldsJob past held k

  -- ---- What is answered is the event that follows

  made_is : (asked : Ask) (past : List Event) (e made : Event) (now : CoreView) → is_legal setup past
      → IsNext setup by_guess past asked e → IsMade asked (core_of past) made now
      → IsDecidedIn by_guess (core_of past) (said.Event made)
      → (made ≡ e) × (now ≡ core_of (e ∷ past))
  made_is asked past e made now legal next is decided =
      let same : made ≡ e =
      law setup by_guess past legal asked made e is.allowed is.asked decided next.allowed next.suits next.decided in
      (same, is.grows ∙ ap (λ x. core_of (x ∷ past)) same)

  plainly_made : (asked : Ask) (past : List Event) (e : Event) (s : Said) (now : CoreView) → is_legal setup past
      → length past < limit → IsNext setup by_guess past asked e → PlainlyReplied asked (core_of past) s now
      → IsDecidedIn by_guess (core_of past) s → now ≡ core_of (e ∷ past)
  plainly_made asked past e (said.Event made) now legal room next replied decided =
      (made_is asked past e made now legal next replied decided).1
  plainly_made asked past e (said.Job work made) now legal room next replied decided = absurd replied
  plainly_made asked past e said.Idle now legal room next replied decided =
      absurd (never_idle setup past asked e next.allowed next.suits replied.idle)
  plainly_made asked past e said.Stranger now legal room next replied decided = absurd replied
  plainly_made asked past e said.Full now legal room next replied decided =
      let full = replied.full in absurd (omega (arith, full, room))

  -- ---- An ask that lends and takes no job

  plainly_stands : (asked : Ask) (past : List Event) (e : Event) (s : Said) (core now : CoreView)
      (held after : Holding) → length past < limit → IsNext setup by_guess past asked e → LeavesJobs asked
      → after ≡ held → PlainlyReplied asked core s now → IsDecidedIn by_guess core s → Stands past core held
      → Stands (e ∷ past) now after
  plainly_stands asked past e s core now held after room next leaves kept replied decided so =
      let here = subst (λ c. PlainlyReplied asked c s now) so.core_is replied in
      let choice = subst (λ c. IsDecidedIn by_guess c s) so.core_is decided in
      let same = leaves past e next.suits in
      subst (Stands (e ∷ past) now) (sym kept) (record {
        legal = (next.allowed, so.legal);
        core_is = plainly_made asked past e s now so.legal room next here choice;
        places = so.places;
        holds = λ k seq lent.
            let before = so.holds k seq (sym (same k) ∙ lent) in
            record {
              done = before.done;
              slot = before.slot;
              lent = job_kept setup past so.legal e next.allowed k (same k) before.done.job before.lent;
            };
      })

  leaving_stands : (asked : Ask) (past : List Event) (e : Event) (s : Said) (core now : CoreView)
      (held after : Holding) → length past < limit → IsNext setup by_guess past asked e → LeavesJobs asked
      → LeavesNothing by_guess asked → after ≡ held → PlainlyReplied asked core s now → Stands past core held
      → Stands (e ∷ past) now after
  leaving_stands asked past e s core now held after room next jobs leaves kept replied so =
      plainly_stands asked past e s core now held after room next jobs kept replied
      (leaves_decided by_guess asked core s now replied leaves) so

  -- ---- An issue

  -- The slot of the actor has the job, those of the others what they had.
  given_jobs : (past : List Event) (k : ℕ) (e : Event) (held between : Holding) (view : JobView) (done : DoneView)
      → IsNext setup by_guess past (AskIssue k) e → is_legal setup past → length held ≡ most_actors → k < most_actors
      → ((j seq : ℕ) → job past j ≡ Some seq → HoldsJob past held j)
      → IsJobOf setup (e ∷ past) k view → done.job ≡ view → between ≡ slice_set held k (Some done)
      → (j seq : ℕ) → job (e ∷ past) j ≡ Some seq → HoldsJob (e ∷ past) between j
  given_jobs past k e held between view done next legal places inside holds lent is put j seq opened =
      elim (cases_eq j k) [
        | inl own ↦ record {
          done = done;
          slot = ap (λ l. slice_index_or l j None) put
              ∙ ap (λ i. slice_index_or (slice_set held k (Some done)) i None) own
              ∙ held-there held k done (omega arith);
          lent = subst (λ i. IsJobOf setup (e ∷ past) i done.job) (sym own)
              (subst (IsJobOf setup (e ∷ past) k) (sym is) lent);
        }
        | inr other ↦
            let apart : (k == j) ≡ false = grind (arith, nat_tests) in
            let same = issue_others k past e next.suits j apart in
            let before = holds j seq (sym same ∙ opened) in
            record {
              done = before.done;
              slot = ap (λ l. slice_index_or l j None) put
                  ∙ get_or-set_other held k j (Some done) None other ∙ before.slot;
              lent = job_kept setup past legal e next.allowed j same before.done.job before.lent;
            }
      ]

  issue_stands_by : (past : List Event) (e : Event) (k : ℕ) (s : Said) (core mid : CoreView)
      (held between : Holding) → k < most_actors → length past < limit → IsNext setup by_guess past (AskIssue k) e
      → IssueReplied k (core_of past) s mid → Holds k (job_in s) held between → Stands past core held
      → Stands (e ∷ past) mid between
  issue_stands_by past e k (said.Event made) core mid held between inside room next replied holds so = absurd replied
  issue_stands_by past e k (said.Job view made) core mid held between inside room next replied holds so =
      let is = made_is (AskIssue k) past e made mid so.legal next replied.made
      (issue_leaves by_guess k setup past made replied.made.asked) in
      let lent = subst (λ (c : CoreView). IsJobOf c.setup c.past k view) is.1 replied.lent in
      record {
        legal = (next.allowed, so.legal);
        core_is = is.1;
        places = ap length holds.2 ∙ length-set held k (Some holds.0) ∙ so.places;
        holds = given_jobs past k e held between view holds.0 next so.legal so.places inside so.holds lent holds.1 holds.2;
      }
  issue_stands_by past e k said.Idle core mid held between inside room next replied holds so =
      absurd (never_idle setup past (AskIssue k) e next.allowed next.suits replied.idle)
  issue_stands_by past e k said.Stranger core mid held between inside room next replied holds so = absurd replied
  issue_stands_by past e k said.Full core mid held between inside room next replied holds so =
      let full = replied.full in absurd (omega (arith, full, room))

  issue_stands : (past : List Event) (e : Event) (k : ℕ) (s : Said) (core mid : CoreView)
      (held between : Holding) (text : List ℕ) → k < most_actors → length past < limit
      → IsNext setup by_guess past (AskIssue k) e → IsIssue Replied k s held between core mid text → Stands past core held
      → Stands (e ∷ past) mid between
  issue_stands past e k s core mid held between text inside room next issue so =
      issue_stands_by past e k s core mid held between inside room next
      (subst (λ c. IssueReplied k c s mid) so.core_is issue.asked.replied) issue.holds so

  -- ---- A completion

  completed : (past : List Event) (e : Event) (k : ℕ) (view : JobView) (s : Said) (now : CoreView)
      → is_legal setup past → length past < limit → IsNext setup by_guess past (AskComplete k) e
      → IsJobOf setup past k view → CompleteReplied k view (core_of past) s now → now ≡ core_of (e ∷ past)
  completed past e k view (said.Event made) now legal room next lent replied =
      (made_is (AskComplete k) past e made now legal next replied.made
      (complete_leaves by_guess k setup past made replied.made.asked)).1
  completed past e k view (said.Job other made) now legal room next lent replied = absurd replied
  completed past e k view said.Idle now legal room next lent replied = absurd replied
  completed past e k view said.Stranger now legal room next lent replied = absurd (replied.strange lent)
  completed past e k view said.Full now legal room next lent replied =
      let full = replied.full in absurd (omega (arith, full, room))

  left_jobs : (past : List Event) (k : ℕ) (e : Event) (held after : Holding)
      → IsNext setup by_guess past (AskComplete k) e → is_legal setup past
      → ((j seq : ℕ) → job past j ≡ Some seq → HoldsJob past held j) → after ≡ slice_set held k None
      → (j seq : ℕ) → job (e ∷ past) j ≡ Some seq → HoldsJob (e ∷ past) after j
  left_jobs past k e held after next legal holds empty j seq opened =
      elim (cases_eq j k) [
        | inl own ↦
            let none = complete_closes k past e next.suits j (λ other. absurd (grind (arith, nat_tests))) in
            absurd (none-some seq (sym none ∙ opened))
        | inr other ↦
            let apart : (k == j) ≡ false = grind (arith, nat_tests) in
            let same = complete_others k past e next.suits j apart in
            let before = holds j seq (sym same ∙ opened) in
            record {
              done = before.done;
              slot = ap (λ l. slice_index_or l j None) empty
                  ∙ get_or-set_other held k j None None other ∙ before.slot;
              lent = job_kept setup past legal e next.allowed j same before.done.job before.lent;
            }
      ]

  back_stands : (past : List Event) (e : Event) (k : ℕ) (core now : CoreView) (held after : Holding)
      (text : List ℕ) → length past < limit → IsNext setup by_guess past (AskComplete k) e
      → HandsBack Replied k held after core now text → Stands past core held → Stands (e ∷ past) now after
  back_stands past e k core now held after text room next back so =
      let has = completes_its_job setup past k e next.suits next.allowed in
      let holding = so.holds k has.seq has.lent in
      let over = subst (λ slot. HandsOver Replied k slot core now text) holding.slot back.over in
      let replied = subst (λ c. CompleteReplied k holding.done.job c over.0 now) so.core_is over.1.replied in
      record {
        legal = (next.allowed, so.legal);
        core_is = completed past e k holding.done.job over.0 now so.legal room next holding.lent replied;
        places = ap length back.empty ∙ length-set held k None ∙ so.places;
        holds = left_jobs past k e held after next so.legal so.holds back.empty;
      }

  -- ---- A unit

  unit_stands_by : (past : List Event) (e f : Event) (k : ℕ) (s : Said) (core mid now : CoreView)
      (held between after : Holding) (first second : List ℕ) → k < most_actors → length past + 1 < limit
      → IsNext setup by_guess past (AskIssue k) e → IsNext setup by_guess (e ∷ past) (AskComplete k) f
      → IsIssue Replied k s held between core mid first → HandsBackWhere Replied (job_in s) k between after mid now second
      → Stands past core held → Stands (f ∷ e ∷ past) now after
  unit_stands_by past e f k (said.Job view made) core mid now held between after first second inside room next last
      issue back so =
      back_stands (e ∷ past) f k mid now between after second (omega arith) last back
      (issue_stands past e k (said.Job view made) core mid held between first inside (omega arith) next issue so)
  unit_stands_by past e f k (said.Event made) core mid now held between after first second inside room next last issue
      back so =
      absurd issue.asked.replied
  unit_stands_by past e f k said.Idle core mid now held between after first second inside room next last issue back so =
      let replied = subst (λ c. IssueReplied k c said.Idle mid) so.core_is issue.asked.replied in
      absurd (never_idle setup past (AskIssue k) e next.allowed next.suits replied.idle)
  unit_stands_by past e f k said.Stranger core mid now held between after first second inside room next last issue
      back so =
      absurd issue.asked.replied
  unit_stands_by past e f k said.Full core mid now held between after first second inside room next last issue back so =
      let replied = subst (λ c. IssueReplied k c said.Full mid) so.core_is issue.asked.replied in
      let full = replied.full in
      absurd (omega (arith, full, room))

  -- ---- One action

  -- An action has taken the events of its asks off those that follow.
  record HasActed (asks : List Ask) (past later : List Event) (now : CoreView) (after : Holding) : Type 0 where
    made : List Event
    rest : List Event
    stands : Stands made now after
    follow : Follow setup by_guess made asks rest
    whole : onto rest made ≡ onto later past
    short : length rest + length made ≤ limit

  taken : (asked : Ask) (asks : List Ask) (past later : List Event) (now : CoreView) (after : Holding)
      → length later + length past ≤ limit → Follow setup by_guess past (asked ∷ asks) later
      → ((e : Event) → length past < limit → IsNext setup by_guess past asked e → Stands (e ∷ past) now after)
      → HasActed asks past later now after
  taken asked asks past [] now after short next go = absurd next
  taken asked asks past (e ∷ later) now after short next go = record {
    made = e ∷ past;
    rest = later;
    stands = go e (omega arith) next.0;
    follow = next.1;
    whole = refl;
    short = omega arith;
  }

  both_taken : (k : ℕ) (asks : List Ask) (past later : List Event) (core now : CoreView)
      (held after : Holding) (text : List ℕ) → k < most_actors → length later + length past ≤ limit
      → Follow setup by_guess past (AskIssue k ∷ AskComplete k ∷ asks) later
      → IsUnit Replied k held after core now text → Stands past core held → HasActed asks past later now after
  both_taken k asks past [] core now held after text inside short next unit so = absurd next
  both_taken k asks past (e ∷ []) core now held after text inside short next unit so = absurd next.1
  both_taken k asks past (e ∷ f ∷ later) core now held after text inside short next unit so = record {
    made = f ∷ e ∷ past;
    rest = later;
    stands =
        unit_stands_by past e f k unit.said core unit.mid now held unit.between after unit.first unit.second inside
        (omega arith) next.0 next.1.0 unit.issue unit.back so;
    follow = next.1.1;
    whole = refl;
    short = omega arith;
  }

  acted : (x : Action) (asks : List Ask) (past later : List Event) (core now : CoreView)
      (held after : Holding) (text : List ℕ) → IsInRange x → length later + length past ≤ limit
      → Follow setup by_guess past (asks_of_action x ++ asks) later → Acts Replied x held after core now text
      → AllFollow guess now.past → Stands past core held → HasActed asks past later now after
  acted (action.Fetch k) asks past later core now held after text inside short next acts all so =
      let s = acts.1.0 in
      let replied = acts.1.1.replied in
      taken (AskFetch k) asks past later now after short next (λ e room is.
      plainly_stands (AskFetch k) past e s core now held after room is (fetch_jobs k) acts.0 replied
      (fetch_replied guess k core s now replied all) so)
  acted (action.Decode k h) asks past later core now held after text inside short next acts all so =
      taken (AskDecode k h) asks past later now after short next (λ e room is.
      leaving_stands (AskDecode k h) past e acts.1.0 core now held after room is (decode_jobs k h)
      (decode_leaves by_guess k h) acts.0 acts.1.1.replied so)
  acted (action.Rename k h) asks past later core now held after text inside short next acts all so =
      let s = acts.1.0 in
      let replied = acts.1.1.replied in
      taken (AskRename k h) asks past later now after short next (λ e room is.
      plainly_stands (AskRename k h) past e s core now held after room is (rename_jobs k h) acts.0 replied
      (rename_replied by_guess k h core s now replied) so)
  acted (action.Retire k h) asks past later core now held after text inside short next acts all so =
      taken (AskRetire k h) asks past later now after short next (λ e room is.
      leaving_stands (AskRetire k h) past e acts.1.0 core now held after room is (retire_jobs k h)
      (retire_leaves by_guess k h) acts.0 acts.1.1.replied so)
  acted (action.Issue k) asks past later core now held after text inside short next acts all so =
      taken (AskIssue k) asks past later now after short next (λ e room is.
      issue_stands past e k acts.0 core now held after text inside room is acts.1 so)
  acted (action.Complete k) asks past later core now held after text inside short next acts all so =
      taken (AskComplete k) asks past later now after short next (λ e room is.
      back_stands past e k core now held after text room is acts so)
  acted (action.Unit k) asks past later core now held after text inside short next acts all so =
      both_taken k asks past later core now held after text inside short next acts so

  -- ---- All actions

  pub all_made : (actions : List Action) (past later : List Event) (core now : CoreView)
      (held after : Holding) (text : List ℕ) → AllByRecursion IsInRange actions
      → length later + length past ≤ limit
      → Follow setup by_guess past (flat_map asks_of_action actions) later
      → AllAct Replied actions held after core now text → AllFollow guess now.past → Stands past core held
      → now ≡ core_of (onto later past)
  all_made [] past [] core now held after text inside short next acts all so = acts.1 ∙ so.core_is
  all_made [] past (e ∷ later) core now held after text inside short next acts all so = absurd next
  all_made (x ∷ others) past later core now held after text inside short next acts all so =
      let mid = acts.1 in
      let grows = all_grown others acts.0 after mid now acts.3 acts.5 in
      let before = older_follow guess grows.newer mid.past (subst (AllFollow guess) grows.grown all) in
      let here = acted x (flat_map asks_of_action others) past later core mid held acts.0 acts.2 inside.0 short next
      acts.4 before so in
      all_made others here.made here.rest mid now acts.0 after acts.3 inside.1 here.short here.follow acts.5 all
      here.stands
      ∙ ap core_of here.whole

  -- Nobody has a job, and nothing has happened.
  pub at_start : (held : Holding) → length held ≡ most_actors → Stands [] (core_of []) held
  at_start held places = record {
    legal = tt;
    core_is = refl;
    places = places;
    holds = λ k seq lent. absurd (none-some seq lent);
  }
