-- The command `run --times`: its runs, one behind the other, and what is asked of them.
use Rattle.std.proofs.Common.{◌≡◌, ℕ, ◌+◌, ◌<◌, ◌^◌, Bool, true, false, refl, sym, ap, subst, ◌∙◌, arith, inl, inr}
use Rattle.std.proofs.Common.{List, [], ◌∷◌, length, map, Option, Some, None, Result, Ok, Err, IfOk, OnOk, All}
use Rattle.std.specs.{Io.KnownBytes.Appends}
use Rattle.std.proofs.lemmas.Bool.{cases_Bool}
use Rattle.std.proofs.lemmas.List.{length-map}
use Rattle.elf_image.specs.Image.{ProgramImage}
use Rattle.core_state.specs.{View.CoreView}
use Rattle.sim_inputs.specs.declared.settings.Settings.{Settings}
use Rattle.sim_inputs.specs.declared.line.{RunCommand.RunCommand, QuestionText.QuestionText}
use Rattle.sim_inputs.specs.declared.line.QuestionText.TheVariants as texts
use Rattle.symbols.specs.Tables.{Table}
use Rattle.watched_outcomes.specs.declared.watch.Watch.{Watch}
use Rattle.outcome_queries.specs.{declared.watched.Asked.Asked, declared.term.Term.Term}
use Rattle.outcome_queries.specs.declared.question.Question.{Question}
use Rattle.outcome_queries.specs.Watches.{registers_in, words_in, registers_asked, memory_asked}
use Rattle.outcome_queries.specs.Harts.{IsHartThere, absent_hart}
use Rattle.stress_runs.specs.declared.keeping.Part.{Part}
use Rattle.stress_runs.specs.declared.tally.Row.{Row}
use Rattle.stress_runs.specs.{Ends.TallyView, Ends.end_of, Ends.is_new, Ends.next_number, Ends.tally_of}
use Rattle.stress_runs.specs.{Ends.rows_of, Kept.IsKept}
use Rattle.stress_runs.specs.{Kept.IsNextKept, Table.tally_text}
use Rattle.text_fields.proofs.Appending.{appends_more}
use Rattle.command_parts.specs.{Refused.AreAccepted, declared.refused.Refused.Refused}
use Rattle.command_parts.specs.declared.refused.Refused.TheVariants as reasons
use Rattle.core_commands.specs.{Account.kept_story, Run.LackARole, Run.IsRunRefusal}
use Rattle.plain_commands.specs.Outcomes.{IsWatchOf, IsHartRefusal}
use Rattle.plain_commands.specs.Questions.{IsConditionRefused, IsQuestionOf, IsTextRefused, terms_asked}
use Rattle.core_commands.specs.Watching.{IsAsking, IsAskedOnce, IsAskedRefusal, IsAllThere, IsListRefusal, IsAbsent}
use Rattle.core_commands.specs.Watching.{LacksRoomFor}
use Rattle.core_commands.specs.Stress.{StressComesTo, HasTallied, HasRunOnce, AreEndsWritten, IsEndWritten, runs_of}
use Rattle.core_commands.specs.Stress.{IsStressRefusal, answer_told, stress_status, stress_text}
use Rattle.core_commands.specs.Making.{AreMade}

module _ {S : Type 0} (begins : S → ℕ → Part → S → Type 0) (written : S → Option (List ℕ)) (has_failed : S → Bool)
    (names : Table) (watch : Watch) where
  -- ---- The files of one run

  old_end : (rows : List Row) (core : CoreView) (s : S) → None ≡ next_number (end_of watch core) rows
      → IsNextKept begins written has_failed (kept_story names) watch rows core s s
  old_end rows core s is = elim (cases_Bool (is_new (end_of watch core) rows)) [
    | inl new ↦
        let absent : ◌≡◌ {A = Option ℕ} None (Some (length rows + 1)) = rw new at is in
        absurd cc
    | inr old ↦ rw old refl
  ]

  new_end : (rows : List Row) (core : CoreView) (s t : S) (number : ℕ)
      → Some number ≡ next_number (end_of watch core) rows
      → IsKept begins written has_failed s t number core (kept_story names core)
      → IsNextKept begins written has_failed (kept_story names) watch rows core s t
  new_end rows core s t number is kept = elim (cases_Bool (is_new (end_of watch core) rows)) [
    | inl new ↦
        let there : ◌≡◌ {A = Option ℕ} (Some number) (Some (length rows + 1)) = rw new at is in
        let same : number ≡ length rows + 1 = cc in
        rw new (subst (λ n. IsKept begins written has_failed s t n core (kept_story names core)) same kept)
    | inr old ↦
        let absent : ◌≡◌ {A = Option ℕ} (Some number) None = rw old at is in
        absurd cc
  ]

  -- The end has come before; ends aren't kept; the end is new, and is kept.
  pub none_written : (keep : Bool) (rows : List Row) (core : CoreView) (s : S) (number : Option ℕ) → number ≡ None
      → number ≡ next_number (end_of watch core) rows
      → IsEndWritten begins written has_failed s s keep names watch rows core
  none_written true rows core s number none is = old_end rows core s (sym none ∙ is)
  none_written false rows core s number none is = refl

  pub unkept_written : (keep : Bool) (rows : List Row) (core : CoreView) (s : S) → keep ≡ false
      → IsEndWritten begins written has_failed s s keep names watch rows core
  unkept_written keep rows core s unkept = rw unkept refl

  pub end_written : (keep : Bool) (rows : List Row) (core : CoreView) (s t : S) (n : ℕ) (number : Option ℕ)
      (lent held : List ℕ) → keep ≡ true → number ≡ Some n → number ≡ next_number (end_of watch core) rows
      → lent ≡ held → held ≡ kept_story names core → IsKept begins written has_failed s t n core lent
      → IsEndWritten begins written has_failed s t keep names watch rows core
  end_written keep rows core s t n number lent held keeps some is same told kept =
      rw keeps (new_end rows core s t n (sym some ∙ is)
      (subst (λ (text : List ℕ). IsKept begins written has_failed s t n core text) (same ∙ told) kept))

  -- ---- The files of all runs

  pub more_written : (keep : Bool) (cores : List CoreView) (core : CoreView) (r s t : S)
      → AreEndsWritten begins written has_failed r s keep names watch cores
      → IsEndWritten begins written has_failed s t keep names watch (rows_of (map (end_of watch) cores)) core
      → AreEndsWritten begins written has_failed r t keep names watch (core ∷ cores)
  more_written true cores core r s t before next = (s, before, next)
  more_written false cores core r s t before next = next ∙ before

  pub nothing_written : (keep : Bool) (s : S) → AreEndsWritten begins written has_failed s s keep names watch []
  nothing_written true s = refl
  nothing_written false s = refl

-- ---- The runs

module _ {S : Type 0} (begins : S → ℕ → Part → S → Type 0) (written : S → Option (List ℕ)) (has_failed : S → Bool)
    {M : Type 0} (leaves : M → CoreView → M → Type 0)
    (settings : Settings) (image : ProgramImage) (names : Table) (watch : Watch) (keep : Bool) where
  pub first_run : (m n : M) (s t : S) (old new : TallyView) → old ≡ tally_of []
      → HasRunOnce settings image watch (λ core. leaves m core n)
      (IsEndWritten begins written has_failed s t keep names watch) old new
      → HasTallied settings image watch (AreMade leaves m n)
      (AreEndsWritten begins written has_failed s t keep names watch) 1 new
  first_run m n s t old new none once = record {
    accepted = once.accepted;
    manned = once.manned;
    cores = once.core ∷ [];
    many = refl;
    are = (once.is, tt);
    made = (m, refl, once.made);
    kept = more_written begins written has_failed names watch keep [] once.core s s t
        (nothing_written begins written has_failed names watch keep s)
        (subst (λ (u : TallyView). IsEndWritten begins written has_failed s t keep names watch u.rows once.core) none
        once.kept);
    tallied = once.counted [] (omega arith) none;
  }

  pub one_more_run : (k l m : M) (r s t : S) (n : ℕ) (old new : TallyView) → n + 1 < 2 ^ 32
      → HasTallied settings image watch (AreMade leaves k l)
      (AreEndsWritten begins written has_failed r s keep names watch) n old
      → HasRunOnce settings image watch (λ core. leaves l core m)
      (IsEndWritten begins written has_failed s t keep names watch) old new
      → HasTallied settings image watch (AreMade leaves k m)
      (AreEndsWritten begins written has_failed r t keep names watch) (n + 1) new
  one_more_run k l m r s t n old new few so_far once =
      let all = so_far.cores in
      let longer : length (once.core ∷ all) ≡ n + 1 = omega (arith, so_far.many) in
      let short : length (map (end_of watch) all) + 1 < 2 ^ 32 =
      subst (λ (m : ℕ). m + 1 < 2 ^ 32) (sym (length-map all (end_of watch) ∙ so_far.many)) few in
      record {
        accepted = once.accepted;
        manned = once.manned;
        cores = once.core ∷ all;
        many = longer;
        are = (once.is, so_far.are);
        made = (l, so_far.made, once.made);
        kept = more_written begins written has_failed names watch keep all once.core r s t so_far.kept
            (subst (λ (u : TallyView). IsEndWritten begins written has_failed s t keep names watch u.rows once.core)
            so_far.tallied once.kept);
        tallied = once.counted (map (end_of watch) all) short so_far.tallied;
      }

pub same_many : (settings : Settings) (image : ProgramImage) (watch : Watch) (Made Kept : List CoreView → Type 0)
    (m n : ℕ) (tally : TallyView)
    → m ≡ n → HasTallied settings image watch Made Kept m tally → HasTallied settings image watch Made Kept n tally
same_many settings image watch Made Kept m n tally same so =
    subst (λ runs. HasTallied settings image watch Made Kept runs tally) same so

-- What is watched for a list, as that is lent.
pub watches_lent : (watch : Watch) (lent all : List Asked) → lent ≡ all → watch.registers.items ≡ registers_in lent
    → watch.words.items ≡ words_in lent → IsWatchOf watch all
watches_lent watch lent all same registers words = record {
  registers = registers ∙ ap registers_in same;
  words = words ∙ ap words_in same;
}

-- What is asked, as its terms are lent.
pub asks_so : (harts : ℕ) (names : Table) (run : RunCommand) (question : Option Question) (all : List Asked)
    (terms : List Term) → terms ≡ terms_asked question → IsQuestionOf names run.question question
    → IsAskedOnce names run.watch terms all → All (IsHartThere harts) terms → IsAsking harts names run question all
asks_so harts names run question all terms same asks asked there = record {
  asks = asks;
  asked = subst (λ (ts : List Term). IsAskedOnce names run.watch ts all) same asked;
  there = subst (λ (ts : List Term). All (IsHartThere harts) ts) same there;
}

-- The table, and the answer behind it; what is watched is lent.
module _ (all lent registers words : List Asked) (watch : Watch) (question : Option Question) (runs : ℕ)
    (tally : TallyView) (old middle new : Option (List ℕ)) where
  pub told_behind : (answer : Result ℕ Refused) → lent ≡ all → registers ≡ registers_asked lent
      → words ≡ memory_asked lent → Appends old middle (tally_text registers words runs tally.rows)
      → OnOk answer (Appends middle new (answer_told watch question tally.rows))
      → OnOk answer (Appends old new (stress_text all watch question runs tally))
  told_behind (Err why) same of_registers of_words table answered = tt
  told_behind (Ok status) same of_registers of_words table answered =
      appends_more old middle new _ _
      (subst (λ (list : List Asked). Appends old middle
      (tally_text (registers_asked list) (memory_asked list) runs tally.rows)) same
      (rw (of_registers, of_words) at table)) answered

-- The table of the runs and the answer were printed, and the status goes with that. Whether ends are kept is held as it
-- was found, and what was printed before is as it was lent.
module _ (settings : Settings) (image : ProgramImage) (names : Table) (run : RunCommand) (times : ℕ)
    (Made : List CoreView → Type 0) (Kept : Bool → Watch → List CoreView → Type 0) (question : Option Question) (all : List Asked) (watch : Watch)
    (tally : TallyView) (lent old new : Option (List ℕ)) (runs : ℕ) (held keep : Bool)
    (asking : IsAsking settings.config.harts names run question all) (watches : IsWatchOf watch all)
    (there : IsAllThere image settings.config.harts watch)
    (done : HasTallied settings image watch Made (Kept held watch) runs tally) (same : runs ≡ runs_of times)
    (same_keep : held ≡ keep) (unprinted : lent ≡ old) where
  told_so : (status : ℕ) → Appends old new (stress_text all watch question runs tally)
      → status ≡ stress_status watch question tally
      → StressComesTo settings image names run times Made (Kept keep) old new status
  told_so status printed is = record {
    accepted = done.accepted;
    manned = done.manned;
    question = question;
    all = all;
    watch = watch;
    asking = asking;
    watches = watches;
    there = there;
    cores = done.cores;
    many = done.many ∙ same;
    are = done.are;
    made = done.made;
    kept = subst (λ (k : Bool). Kept k watch done.cores) same_keep done.kept;
    printed = rw (same, done.tallied) at printed;
    stands = is ∙ ap (λ (u : TallyView). stress_status watch question u) done.tallied;
  }

  pub stress_ended : (answer : Result ℕ Refused)
      → OnOk answer (Appends lent new (stress_text all watch question runs tally))
      → IfOk answer (λ status. status ≡ stress_status watch question tally)
      → IfOk answer (StressComesTo settings image names run times Made (Kept keep) old new)
  stress_ended (Ok status) printed is = told_so status
      (subst (λ (o : Option (List ℕ)). Appends o new (stress_text all watch question runs tally)) unprinted printed) is
  stress_ended (Err why) printed is = tt

-- Whatever is said of how the cores were made.
pub stress_anyhow : (settings : Settings) (image : ProgramImage) (names : Table) (run : RunCommand) (times : ℕ)
    (Made : List CoreView → Type 0) (Kept : Watch → List CoreView → Type 0) (old new : Option (List ℕ))
    (answer : Result ℕ Refused) → IfOk answer (StressComesTo settings image names run times Made Kept old new)
    → IfOk answer (StressComesTo settings image names run times (λ cores. Unit {0}) Kept old new)
stress_anyhow settings image names run times Made Kept old new (Err why) ended = tt
stress_anyhow settings image names run times Made Kept old new (Ok status) ended = record {
  accepted = ended.accepted;
  manned = ended.manned;
  question = ended.question;
  all = ended.all;
  watch = ended.watch;
  asking = ended.asking;
  watches = ended.watches;
  there = ended.there;
  cores = ended.cores;
  many = ended.many;
  are = ended.are;
  made = tt;
  kept = ended.kept;
  printed = ended.printed;
  stands = ended.stands;
}

-- ---- The refusals

module _ (settings : Settings) (image : ProgramImage) (names : Table) (run : RunCommand) where
  pub asked_refused : (why : Refused) → IsAskedRefusal settings.config.harts names run why
      → IsStressRefusal settings image names run why
  asked_refused (reasons.Condition why) is = is
  asked_refused (reasons.Watch why) is = is
  asked_refused reasons.ManyWatched is = is
  asked_refused (reasons.NoHart hart) is = inl is
  asked_refused reasons.Memory is = tt
  asked_refused _ is = absurd is

  pub absent_refused : (question : Option Question) (all : List Asked) (watch : Watch) (why : Refused)
      → IsAsking settings.config.harts names run question all → IsWatchOf watch all
      → IsAbsent image settings.config.harts watch why → IsStressRefusal settings image names run why
  absent_refused question all watch (reasons.NoHart hart) asking watches is =
      inr (question, all, watch, asking, watches, is)
  absent_refused question all watch (reasons.NoWord bytes) asking watches is =
      (question, all, watch, asking, watches, is)
  absent_refused question all watch reasons.Memory asking watches is = tt
  absent_refused question all watch _ asking watches is = absurd is

  pub run_refused : (why : Refused) → IsRunRefusal settings why → IsStressRefusal settings image names run why
  run_refused (reasons.Condition why) is = absurd is
  run_refused (reasons.Watch why) is = absurd is
  run_refused reasons.ManyWatched is = absurd is
  run_refused (reasons.NoHart hart) is = absurd is
  run_refused (reasons.NoWord bytes) is = absurd is
  run_refused _ is = is

  pub output_refused : AreAccepted settings → (LackARole settings → ⊥) → (why : Refused) → why ≡ reasons.Output
      → IsStressRefusal settings image names run why
  output_refused accepted manned why is =
      subst (λ (w : Refused). IsStressRefusal settings image names run w) (sym is) (accepted, manned)

-- What is asked is refused by its parts: the condition, then what is watched, then a hart of the condition.
module _ (harts : ℕ) (names : Table) (run : RunCommand) where
  text_refused : (text : List ℕ) (why : Refused) → IsTextRefused names text why
      → (IsTextRefused names text why → IsConditionRefused names run.question why) → IsAskedRefusal harts names run why
  text_refused text (reasons.Condition why) is of_it = of_it is
  text_refused text reasons.Memory is of_it = tt
  text_refused text _ is of_it = absurd is

  by_text : (asked : Option QuestionText) → asked ≡ run.question → (why : Refused) → IsConditionRefused names asked why
      → IsAskedRefusal harts names run why
  by_text (Some (texts.Exists text)) same why is =
      text_refused text.now why is (λ it. subst (λ (q : Option QuestionText). IsConditionRefused names q why) same it)
  by_text (Some (texts.ForAll text)) same why is =
      text_refused text.now why is (λ it. subst (λ (q : Option QuestionText). IsConditionRefused names q why) same it)
  by_text (Some (texts.Never text)) same why is =
      text_refused text.now why is (λ it. subst (λ (q : Option QuestionText). IsConditionRefused names q why) same it)
  by_text (Some texts.NeverStuck) same why is = absurd is
  by_text None same why is = absurd is

  pub condition_refused : (why : Refused) → IsConditionRefused names run.question why
      → IsAskedRefusal harts names run why
  condition_refused why is = by_text run.question refl why is

  module _ (question : Option Question) (terms : List Term) (same : terms ≡ terms_asked question)
      (asks : IsQuestionOf names run.question question) where
    pub list_refused : (why : Refused) → IsListRefusal names run.watch terms why → IsAskedRefusal harts names run why
    list_refused (reasons.Watch why) is = is
    list_refused reasons.ManyWatched is =
        (question, asks, subst (λ (ts : List Term). LacksRoomFor names run.watch ts) same is)
    list_refused _ is = absurd is

    pub hart_refused : (why : Refused) → IsHartRefusal harts terms why → IsAskedRefusal harts names run why
    hart_refused (reasons.NoHart hart) is =
        (question, asks, subst (λ (ts : List Term). absent_hart harts ts ≡ Some hart) same is)
    hart_refused _ is = absurd is
