-- One action after another, and the asks of a unit.
use Rattle.std.specs.Prelude.{◌≡◌, ℕ, ◌+◌, ◌<◌, zero, suc, Bool, true, false, is_some, List, [], ◌∷◌, ◌++◌}
use Rattle.std.specs.Prelude.{length, take, get_or, replicate, slice_index_or, slice_set}
use Rattle.std.specs.Prelude.{Option, Some, None, Result, Ok, Err, IfOk, OnOk, IsTrue, ◌↔◌, sum}
use Rattle.std.specs.Result.{result_and}
use Rattle.std.proofs.Common.{refl, sym, ap, subst, ◌∙◌, append_assoc, arith}
use Rattle.std.specs.Io.KnownBytes.{Appends, Keeps as StaysKnown, append_known}
use Rattle.std.proofs.KnownBytes.{append_known-grown}
use Rattle.std.proofs.lemmas.Bool.{false≢true}
use Rattle.std.proofs.lemmas.Grind.{common_steps}
use Rattle.std.proofs.lemmas.List.{take_more, flat_map_more}
use Rattle.exec_units.specs.Job.{JobView, DoneView}
use Rattle.text_fields.specs.Printing.{Prints}
use Rattle.core_state.specs.View.{CoreView}
use Rattle.smt_model.specs.Setup.{Setup}
use Rattle.smt_core.specs.declared.finished.Finished.{Finished}
use Rattle.smt_core.specs.{Counts.AreCounts, Shown.Shown}
use Rattle.scripts.specs.Run.{HasRunScript}
use Rattle.core_lock.specs.{declared.ask.Ask.Ask, declared.ask.Said.Said}
use Rattle.core_lock.specs.declared.ask.Ask.TheVariants as ask
use Rattle.scripts.specs.{declared.actions.Action.Action, declared.actions.ScriptWord.ScriptWord}
use Rattle.scripts.specs.{Script.IsScript}
use Rattle.scripts.specs.Session.{Holding, nobody, none_line, HasAsked, job_in, IsIssue, HandsOver}
use Rattle.scripts.specs.Session.{HandsBack, HandsBackWhere, IsUnit, Acts, AllAct, repeated, actions_of, HaveAsked}
use Rattle.scripts.specs.Session.{AreAsked, Counted, HasReplied, HaveCounted, AreCounted, uncounted}
use Rattle.scripts.specs.declared.actions.Action.TheVariants as action
use Rattle.core_lock.specs.Asks.{Replied}
use Rattle.scripts.specs.Session.{unasked, HasGuessed, AreGuessed, AreAskedWith, PrintsGuessed}
use Rattle.text_fields.proofs.Appending.{appends_more}
use Rattle.scripts.proofs.{Asking.guessed_both, Asking.guessed_none}

pub after_nothing : {X : Type 0} (xs : List X) → xs ++ [] ≡ xs
after_nothing xs = grind (arith, common_steps)

-- ---- All of one list of actions, and then all of another

pub act_both : (first second : List Action) (held between now : Holding) (old mid new : Counted) (a b : List ℕ)
    → AllAct HasReplied first held between old mid a → AllAct HasReplied second between now mid new b
    → AllAct HasReplied (first ++ second) held now old new (a ++ b)
act_both [] second held between now old mid new a b one two =
    subst (λ t. AllAct HasReplied second held now old new (t ++ b)) (sym one.2)
    (subst (λ h. AllAct HasReplied second h now old new b) one.0
    (subst (λ c. AllAct HasReplied second between now c new b) one.1 two))
act_both (x ∷ others) second held between now old mid new a b one two = (
  one.0,
  one.1,
  one.2,
  one.3 ++ b,
  one.4,
  act_both others second one.0 between now one.1 mid new one.3 b one.5 two,
  ap (λ t. t ++ b) one.6 ∙ append_assoc one.2 one.3 b,
)

pub act_one : (x : Action) (held now : Holding) (old new : Counted) (text : List ℕ)
    → Acts HasReplied x held now old new text → AllAct HasReplied (x ∷ []) held now old new text
act_one x held now old new text acts = (now, new, text, [], acts, (refl, refl, refl), sym (after_nothing text))

same_counted : (one : Counted) (core : CoreView) (idle : List ℕ) → core ≡ one.core → idle ≡ one.idle
    → one ≡ record { core = core; idle = idle }
same_counted one core idle is are =
    ap (λ c. record { core = c; idle = one.idle }) (sym is) ∙ ap (λ l. record { core = core; idle = l }) (sym are)

-- ---- What was counted was asked

asked_plainly : (k : ℕ) (a : Ask) (old new : Counted) (text : List ℕ) → HasAsked HasReplied k a old new text
    → HasAsked Replied k a old.core new.core text
asked_plainly k a old new text one = (one.0, record { replied = one.1.replied.replied; line = one.1.line })

issued_plainly : (k : ℕ) (s : Said) (held now : Holding) (old new : Counted) (text : List ℕ)
    → IsIssue HasReplied k s held now old new text → IsIssue Replied k s held now old.core new.core text
issued_plainly k s held now old new text one = record {
  asked = record { replied = one.asked.replied.replied; line = one.asked.line };
  holds = one.holds;
}

over_plainly : (k : ℕ) (slot : Option DoneView) (old new : Counted) (text : List ℕ)
    → HandsOver HasReplied k slot old new text → HandsOver Replied k slot old.core new.core text
over_plainly k None old new text one = (ap (λ c. c.core) one.0, one.1)
over_plainly k (Some done) old new text one = asked_plainly k (ask.Complete done) old new text one

back_plainly : (k : ℕ) (held now : Holding) (old new : Counted) (text : List ℕ)
    → HandsBack HasReplied k held now old new text → HandsBack Replied k held now old.core new.core text
back_plainly k held now old new text one = record {
  over = over_plainly k (slice_index_or held k None) old new text one.over;
  empty = one.empty;
}

where_plainly : (job : Option JobView) (k : ℕ) (held now : Holding) (old new : Counted) (text : List ℕ)
    → HandsBackWhere HasReplied job k held now old new text
    → HandsBackWhere Replied job k held now old.core new.core text
where_plainly None k held now old new text one = (one.0, ap (λ c. c.core) one.1, one.2)
where_plainly (Some job) k held now old new text one = back_plainly k held now old new text one

acts_plainly : (x : Action) (held now : Holding) (old new : Counted) (text : List ℕ)
    → Acts HasReplied x held now old new text → Acts Replied x held now old.core new.core text
acts_plainly (action.Fetch k) held now old new text one = (one.0, asked_plainly k ask.Fetch old new text one.1)
acts_plainly (action.Decode k h) held now old new text one =
    (one.0, asked_plainly k (ask.Decode h) old new text one.1)
acts_plainly (action.Rename k h) held now old new text one =
    (one.0, asked_plainly k (ask.Rename h) old new text one.1)
acts_plainly (action.Retire k h) held now old new text one =
    (one.0, asked_plainly k (ask.Retire h) old new text one.1)
acts_plainly (action.Issue k) held now old new text one =
    (one.0, issued_plainly k one.0 held now old new text one.1)
acts_plainly (action.Complete k) held now old new text one = back_plainly k held now old new text one
acts_plainly (action.Unit k) held now old new text one = record {
  said = one.said;
  between = one.between;
  mid = one.mid.core;
  first = one.first;
  second = one.second;
  issue = issued_plainly k one.said held one.between old one.mid one.first one.issue;
  back = where_plainly (job_in one.said) k one.between now one.mid new one.second one.back;
  both = one.both;
}

all_plainly : (actions : List Action) (held now : Holding) (old new : Counted) (text : List ℕ)
    → AllAct HasReplied actions held now old new text → AllAct Replied actions held now old.core new.core text
all_plainly [] held now old new text one = (one.0, ap (λ c. c.core) one.1, one.2)
all_plainly (x ∷ others) held now old new text one = (
  one.0,
  one.1.core,
  one.2,
  one.3,
  acts_plainly x held one.0 old one.1 one.2 one.4,
  all_plainly others one.0 now one.1 new one.3 one.5,
  one.6,
)

pub have_asked : (words : List ScriptWord) (old new : CoreView) (idle text : List ℕ)
    → HaveCounted words old new idle text → HaveAsked words old new text
have_asked words old new idle text one =
    (one.0, all_plainly (actions_of words) nobody one.0 (uncounted old) (record { core = new; idle = idle }) text one.1)

pub are_asked : (script : List ℕ) (core : CoreView) (idle text : List ℕ) → AreCounted script core idle text
    → AreAsked script core text
are_asked script core idle text one = record {
  words = one.words;
  is_script = one.is_script;
  asked = have_asked one.words (unasked core) core idle text one.asked;
}

again : {X : Type 0} (n : ℕ) (x : X) → replicate (suc n) x ≡ replicate n x ++ x ∷ []
again zero x = refl
again (suc n) x = ap (λ l. x ∷ l) (again n x)

module _ {P : Type 0} (predicts : P → ℕ → ℕ → ℕ → ℕ → P → Type 0) where
  -- What is printed of two, one after the other.
  pub printed_both : (old mid new : CoreView) (before between after : P) (was then now : Option (List ℕ))
      (First Second Both : List ℕ → Type 0) → ((a b : List ℕ) → First a → Second b → Both (a ++ b))
      → PrintsGuessed predicts old mid before between was then First
      → PrintsGuessed predicts mid new between after then now Second
      → PrintsGuessed predicts old new before after was now Both
  printed_both old mid new before between after was then now First Second Both joins one two =
      let a = one.printed.0 in
      let b = two.printed.0 in
      record {
        printed = (
          a ++ b,
          joins a b one.printed.1 two.printed.1,
          appends_more was then now a b one.printed.2 two.printed.2,
        );
        guessed = guessed_both predicts old.past mid.past new.past before between after one.guessed two.guessed;
      }

  -- What holds of each text that was printed.
  pub printed_as : (old new : CoreView) (before after : P) (was now : Option (List ℕ)) (Is So : List ℕ → Type 0)
      → ((text : List ℕ) → Is text → So text) → PrintsGuessed predicts old new before after was now Is
      → PrintsGuessed predicts old new before after was now So
  printed_as old new before after was now Is So then one = record {
    printed = (one.printed.0, then one.printed.0 one.printed.1, one.printed.2);
    guessed = one.guessed;
  }

  -- What is printed behind the lines that are held back is printed behind all that was printed before them.
  pub held_behind : (Is : List ℕ → Type 0) (old new : CoreView) (before after : P)
      (was known : Option (List ℕ)) (held more : List ℕ) → StaysKnown was (append_known known held)
      → PrintsGuessed predicts old new before after (Some held) (Some more) Is
      → PrintsGuessed predicts old new before after was (append_known known more) Is
  held_behind Is old new before after was known held more kept one = record {
    printed = (
      one.printed.0,
      one.printed.1,
      append_known-grown was known held more one.printed.0 kept one.printed.2,
    );
    guessed = one.guessed;
  }

  -- Nothing was asked.
  pub printed_none : (core : Counted) (predictor : P) (out : Option (List ℕ)) (held : Holding) → Appends out out []
      → PrintsGuessed predicts core.core core.core predictor predictor out out (AllAct HasReplied [] held held core core)
  printed_none core predictor out held same = record {
    printed = ([], (refl, refl, refl), same);
    guessed = guessed_none predicts core.core.past predictor;
  }

  both : (first second : List Action) (held between now : Holding) (old mid new : Counted)
      (before at after : P) (was then out : Option (List ℕ))
      → PrintsGuessed predicts old.core mid.core before at was then (AllAct HasReplied first held between old mid)
      → PrintsGuessed predicts mid.core new.core at after then out (AllAct HasReplied second between now mid new)
      → PrintsGuessed predicts old.core new.core before after was out (AllAct HasReplied (first ++ second) held now old new)
  both first second held between now old mid new before at after was then out one two =
      printed_both old.core mid.core new.core before at after was then out _ _ _
      (λ a b. act_both first second held between now old mid new a b) one two

  -- a turn of the loop over the repeats
  pub repeat_step : (n : ℕ) (x : Action) (held between now : Holding) (old mid new : Counted)
      (before at after : P) (was then out : Option (List ℕ))
      → PrintsGuessed predicts old.core mid.core before at was then (AllAct HasReplied (replicate n x) held between old mid)
      → PrintsGuessed predicts mid.core new.core at after then out (Acts HasReplied x between now mid new)
      → PrintsGuessed predicts old.core new.core before after was out (AllAct HasReplied (replicate (n + 1) x) held now old new)
  repeat_step n x held between now old mid new before at after was then out one two =
      let on : n + 1 ≡ suc n = omega arith in
      let more : replicate (n + 1) x ≡ replicate n x ++ x ∷ [] = ap (λ k. replicate k x) on ∙ again n x in
      subst (λ l. PrintsGuessed predicts old.core new.core before after was out (AllAct HasReplied l held now old new)) (sym more)
      (both (replicate n x) (x ∷ []) held between now old mid new before at after was then out one
      (printed_as mid.core new.core at after then out _ _ (act_one x between now mid new) two))

  -- a turn of the loop over the words
  pub words_step : (words : List ScriptWord) (i : ℕ) (d : ScriptWord) (held between now : Holding)
      (old mid new : Counted) (before at after : P) (was then out : Option (List ℕ)) → i < length words
      → PrintsGuessed predicts old.core mid.core before at was then
      (AllAct HasReplied (actions_of (take i words)) held between old mid)
      → PrintsGuessed predicts mid.core new.core at after then out
      (AllAct HasReplied (repeated (get_or words i d)) between now mid new)
      → PrintsGuessed predicts old.core new.core before after was out
      (AllAct HasReplied (actions_of (take (i + 1) words)) held now old new)
  words_step words i d held between now old mid new before at after was then out inside one two =
      let more : actions_of (take (i + 1) words) ≡ actions_of (take i words) ++ repeated (get_or words i d) =
      ap actions_of (take_more words i d inside)
      ∙ sym (flat_map_more repeated [] (take i words) (get_or words i d)) in
      subst (λ l. PrintsGuessed predicts old.core new.core before after was out (AllAct HasReplied l held now old new)) (sym more)
      (both (actions_of (take i words)) (repeated (get_or words i d)) held between now old mid new before at after
      was then out one two)

  -- ---- What a unit asks for

  came_some : (job : Option JobView) (came : Bool) → came ≡ true → came ≡ is_some job
      → (j : JobView) × (job ≡ Some j)
  came_some None came did is = absurd (false≢true (sym is ∙ did))
  came_some (Some j) came did is = (j, refl)

  came_none : (job : Option JobView) (came : Bool) → came ≡ false → came ≡ is_some job → job ≡ None
  came_none None came not_so is = refl
  came_none (Some j) came not_so is = absurd (false≢true (sym not_so ∙ is))

  -- An issue, and whether a job came.
  abbrev pub Issues : ℕ → Bool → Holding → Holding → Counted → Counted → List ℕ → Type 0
  Issues actor came held now old new text =
      (said : Said) × (came ≡ is_some (job_in said)) × IsIssue HasReplied actor said held now old new text

  pub unit_both : (actor : ℕ) (held between now : Holding) (old mid new : Counted) (before at after : P)
      (was then out : Option (List ℕ)) (came : Bool) → came ≡ true
      → PrintsGuessed predicts old.core mid.core before at was then (Issues actor came held between old mid)
      → PrintsGuessed predicts mid.core new.core at after then out (HandsBack HasReplied actor between now mid new)
      → PrintsGuessed predicts old.core new.core before after was out (IsUnit HasReplied actor held now old new)
  unit_both actor held between now old mid new before at after was then out came did one two =
      printed_both old.core mid.core new.core before at after was then out _ _ _
      (λ a b issued back.
      let job = came_some (job_in issued.0) came did issued.1 in
      record {
        said = issued.0;
        between = between;
        mid = mid;
        first = a;
        second = b;
        issue = issued.2;
        back = subst (λ j. HandsBackWhere HasReplied j actor between now mid new b) (sym job.1) back;
        both = refl;
      })
      one two

  pub unit_alone : (actor : ℕ) (held now : Holding) (old new : Counted) (before after : P)
      (was out : Option (List ℕ)) (came : Bool) → came ≡ false
      → PrintsGuessed predicts old.core new.core before after was out (Issues actor came held now old new)
      → PrintsGuessed predicts old.core new.core before after was out (IsUnit HasReplied actor held now old new)
  unit_alone actor held now old new before after was out came not_so one =
      printed_as old.core new.core before after was out _ _
      (λ a issued.
      let job = came_none (job_in issued.0) came not_so issued.1 in
      record {
        said = issued.0;
        between = now;
        mid = new;
        first = a;
        second = [];
        issue = issued.2;
        back = subst (λ j. HandsBackWhere HasReplied j actor now now new new []) (sym job) (refl, refl, refl);
        both = sym (after_nothing a);
      })
      one

  -- What an actor holds is handed back; and one that holds nothing asks nothing.
  pub back_asked : (actor : ℕ) (held now : Holding) (done : DoneView) (old new : Counted) (before after : P)
      (was out : Option (List ℕ)) → slice_index_or held actor None ≡ Some done → now ≡ slice_set held actor None
      → PrintsGuessed predicts old.core new.core before after was out (HasAsked HasReplied actor (ask.Complete done) old new)
      → PrintsGuessed predicts old.core new.core before after was out (HandsBack HasReplied actor held now old new)
  back_asked actor held now done old new before after was out at empty one =
      printed_as old.core new.core before after was out _ _
      (λ a asked. record { over = subst (λ slot. HandsOver HasReplied actor slot old new a) (sym at) asked; empty = empty }) one

  pub back_none : (actor : ℕ) (held now : Holding) (old new : Counted) (before after : P)
      (was out : Option (List ℕ)) → slice_index_or held actor None ≡ None → now ≡ slice_set held actor None
      → new ≡ old → after ≡ before → Appends was out none_line
      → PrintsGuessed predicts old.core new.core before after was out (HandsBack HasReplied actor held now old new)
  back_none actor held now old new before after was out at empty same unasked printed = record {
    printed = (
      none_line,
      record { over = subst (λ slot. HandsOver HasReplied actor slot old new none_line) (sym at) (same, refl); empty = empty },
      printed,
    );
    guessed =
        subst (λ (c : Counted). HasGuessed predicts old.core.past c.core.past before after) (sym same)
        (subst (λ p. HasGuessed predicts old.core.past old.core.past before p) (sym unasked)
        (guessed_none predicts old.core.past before));
  }

  -- ---- An action that makes one ask

  pub acts_as : (x y : Action) → x ≡ y → (held now : Holding) (old new : Counted) (before after : P)
      (was out : Option (List ℕ)) → PrintsGuessed predicts old.core new.core before after was out (Acts HasReplied y held now old new)
      → PrintsGuessed predicts old.core new.core before after was out (Acts HasReplied x held now old new)
  acts_as x y same held now old new before after was out one =
      subst (λ a. PrintsGuessed predicts old.core new.core before after was out (Acts HasReplied a held now old new)) (sym same) one

  -- The actors hold what they held.
  pub holds_still : (actor : ℕ) (ask : Ask) (held now : Holding) (old new : Counted) (before after : P)
      (was out : Option (List ℕ)) → now ≡ held
      → PrintsGuessed predicts old.core new.core before after was out (HasAsked HasReplied actor ask old new)
      → PrintsGuessed predicts old.core new.core before after was out (λ text. (now ≡ held) × HasAsked HasReplied actor ask old new text)
  holds_still actor ask held now old new before after was out same one =
      printed_as old.core new.core before after was out _ _ (λ text asked. (same, asked)) one

  -- ---- All words, of a core whose actors hold nothing

  pub run_whole : {A E : Type 0} (written : Result A E) (left : Finished) (words : List ScriptWord) (named : Setup)
      (first : CoreView) (old new : Counted) (held now : Holding) (before after : P) (was out : Option (List ℕ))
      → held ≡ nobody → old ≡ uncounted first → left.core ≡ new.core → left.idle ≡ new.idle
      → left.core.setup ≡ first.setup → left.core.limit ≡ first.limit
      → IsTrue left.told → (IsTrue left.own ↔ (first.setup ≡ named)) → AreCounts left.core.past left.counts
      → sum left.counts ≡ length left.core.past → Shown left.core
      → OnOk written (PrintsGuessed predicts old.core new.core before after was out
      (AllAct HasReplied (actions_of words) held now old new))
      → IfOk (result_and written (Ok left)) (HasRunScript predicts before after words named first was out)
  run_whole (Ok value) left words named first old new held now before after was out
      none start is are setup limit told own counts counted shown one =
      let text = one.printed.0 in
      let acted = subst (λ h. AllAct HasReplied (actions_of words) h now old new text) none one.printed.1 in
      let begun = subst (λ c. AllAct HasReplied (actions_of words) nobody now c new text) start acted in
      let ended : new ≡ record { core = left.core; idle = left.idle } = same_counted new left.core left.idle is are in
      let all : HaveCounted words first left.core left.idle text = (
        now,
        subst (λ c. AllAct HasReplied (actions_of words) nobody now (uncounted first) c text) ended begun,
      ) in
      record {
        setup = setup;
        limit = limit;
        told = told;
        own = own;
        counts = counts;
        counted = counted;
        shown = shown;
        asked = (text, have_asked words first left.core left.idle text all, one.printed.2);
        idle = (text, all, one.printed.2);
        guessed =
            subst (λ (c : CoreView). HasGuessed predicts first.past c.past before after) (sym is)
            (subst (λ (c : Counted). HasGuessed predicts c.core.past new.core.past before after) start one.guessed);
      }
  run_whole (Err error) left words named first old new held now before after was out
      none start is are setup limit told own counts counted shown one = tt

-- ---- The words of a script that was read

-- A core without a history is what the one that it becomes was before its first event.
unasked_is : (old new : CoreView) → old.past ≡ [] → new.setup ≡ old.setup → new.limit ≡ old.limit
    → old ≡ unasked new
unasked_is old new none setup limit =
    ap (λ p. record { setup = old.setup; limit = old.limit; past = p }) none
    ∙ (ap (λ s. record { setup = s; limit = old.limit; past = [] }) (sym setup)
    ∙ ap (λ l. record { setup = new.setup; limit = l; past = [] }) (sym limit))

pub of_words : {P : Type 0} (predicts : P → ℕ → ℕ → ℕ → ℕ → P → Type 0) (script : List ℕ)
    (words : List ScriptWord) (old new : CoreView) (before after : P) (was now : Option (List ℕ))
    → IsScript script words → old.past ≡ [] → new.setup ≡ old.setup → new.limit ≡ old.limit
    → Prints was now (HaveAsked words old new) → HasGuessed predicts old.past new.past before after
    → Prints was now (AreAskedWith predicts before after script new)
of_words predicts script words old new before after was now is none setup limit printed guessed =
    let past : new.past ≡ guessed.events =
    guessed.grown ∙ ap (λ l. guessed.events ++ l) none ∙ after_nothing guessed.events in (
      printed.0,
      record {
        asked = record {
          words = words;
          is_script = is;
          asked = subst (λ c. HaveAsked words c new printed.0) (unasked_is old new none setup limit) printed.1;
        };
        guessed = subst (λ l. AreGuessed predicts l before after) (sym past) guessed.guessed;
      },
      printed.2,
    )

pub of_counted : (script : List ℕ) (words : List ScriptWord) (old new : CoreView) (idle : List ℕ)
    (was now : Option (List ℕ)) → IsScript script words → old.past ≡ [] → new.setup ≡ old.setup
    → new.limit ≡ old.limit → Prints was now (HaveCounted words old new idle)
    → Prints was now (AreCounted script new idle)
of_counted script words old new idle was now is none setup limit printed = (
  printed.0,
  record {
    words = words;
    is_script = is;
    asked = subst (λ c. HaveCounted words c new idle printed.0) (unasked_is old new none setup limit) printed.1;
  },
  printed.2,
)
