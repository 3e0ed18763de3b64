-- The tests of a suite, one behind the other.
use Rattle.std.specs.Prelude.{◌≡◌, ◌⊎◌, ℕ, List, [], ◌∷◌, map, Option, Some, None, Result, Ok, Err, IfOk, IfErr}
use Rattle.std.proofs.Common.{refl, sym, ap, subst, ◌∙◌}
use mathlib.Core.Logic.{inl, inr}
use Rattle.std.specs.Io.KnownBytes.{Appends, Keeps}
use Rattle.elf_image.specs.Image.{ProgramImage}
use Rattle.outcomes.specs.{Found.Told}
use Rattle.litmus_tests.specs.declared.test.LitmusTest.{LitmusTest}
use Rattle.litmus_suites.specs.Sources.{GivenTest}
use Rattle.litmus_suites.specs.Lines.{verdict_text}
use Rattle.litmus_suites.specs.Expecting.{counterpart, met_of, met_text, taken}
use Rattle.litmus_suites.specs.Counting.{noted}
use Rattle.litmus_suites.specs.declared.verdict.TestLine.{TestLine}
use Rattle.litmus_suites.specs.declared.expectation.{Expectation.Expectation, Met.Met}
use Rattle.litmus_suites.specs.declared.counts.Differences.{Differences}
use Rattle.litmus_suites.specs.Statuses.{worse, worst}
use Rattle.sim_inputs.specs.{declared.settings.Settings.Settings, declared.line.LitmusCommand.LitmusCommand}
use Rattle.command_parts.specs.declared.refused.Refused.{Refused}
use Rattle.command_parts.specs.declared.refused.Refused.TheVariants.{Output}
use Rattle.command_parts.specs.Refused.{exit_status_of}
use Rattle.plain_commands.specs.Litmus.{IsLitmusRefusal, IsTextRefusal, LitmusComesTo}
use Rattle.plain_commands.specs.StateOrders.{HasWrittenState, settings_for, state_asked}
use Rattle.plain_commands.specs.Suite.{AllHaveCome, CameOf, HaveCome, IsMade, IsRefusedTest, IsSummaryOf, IsSummed, IsTold}
use Rattle.plain_commands.specs.Suite.{noted_line, refused_more, status_of}
use Rattle.plain_commands.specs.declared.telling.{Telling.Telling, LineTelling.LineTelling}
use Rattle.plain_commands.specs.declared.telling.Telling.TheVariants.{States, Lines}
use Rattle.plain_commands.specs.declared.telling.LineTelling.TheVariants.{Comparison}

-- what was printed of a line
pub compared_so : (line : TestLine) (before after : LineTelling) (expected left : Expectation) (differences : Differences)
    (met : Met) (old new : Option (List ℕ)) → before ≡ Comparison expected differences
    → after ≡ noted_line met (Comparison left differences)
    → left.lines.items ≡ taken line.name.items expected.lines.items
    → met ≡ met_of (counterpart line.name.items expected.lines.items) (verdict_text line.verdict)
    → Appends old new (met_text line.name.items (counterpart line.name.items expected.lines.items) (verdict_text line.verdict))
    → IsTold line before after old new
compared_so line before after expected left differences met old new is_before is_after is_left is_met printed =
    subst (λ (b : LineTelling). IsTold line b after old new) (sym is_before)
    (left, is_left, is_after ∙ ap (λ (m : Met). Comparison left (noted m differences)) is_met, printed)

pub summed_so : (text : List ℕ) (states : ℕ) (line : TestLine) (before after : LineTelling) (old new : Option (List ℕ))
    (status : ℕ) → IsSummaryOf text states line → IsTold line before after old new → status ≡ status_of line.verdict
    → IsSummed text states before after old new status
summed_so text states line before after old new status summary told is =
    record { line = line; summary = summary; told = told; is = is }

pub lines_so : (text : List ℕ) (settings : Settings) (command : LitmusCommand) (before after : LineTelling)
    (old new : Option (List ℕ)) (status : ℕ) → IsSummed text command.states before after old new status
    → IsMade text settings command (Lines before) (Lines after) old new status
lines_so text settings command before after old new status summed = (after, refl, summed)

-- the order of a state, whatever is put into its file
unput : (settings : Settings) (image : ProgramImage) (test : LitmusTest) (command : LitmusCommand) (Put : List ℕ → Type 0)
    (asked : Option ℕ) (listed : List Told) → HasWrittenState settings image test command Put asked listed
    → HasWrittenState settings image test command (λ bytes. Unit {0}) asked listed
unput settings image test command Put None listed is = tt
unput settings image test command Put (Some number) listed is = (
  is.0,
  is.1,
  record {
    names = is.2.names;
    named = is.2.named;
    text = is.2.text;
    is = is.2.is;
    put = tt;
  },
)

-- what a test comes to, whatever is put into its file
pub unkept : (text : List ℕ) (settings : Settings) (command : LitmusCommand) (Put : List ℕ → Type 0)
    (old new : Option (List ℕ)) (status : ℕ) → LitmusComesTo text settings command Put old new status
    → LitmusComesTo text settings command (λ bytes. Unit {0}) old new status
unkept text settings command Put old new status is = record {
  test = is.test;
  is_text = is.is_text;
  well_formed = is.well_formed;
  comes = elim is.comes [
    | inl all ↦ inl (record {
      image = all.image;
      watch = all.watch;
      searched = all.searched;
      kept = λ wanted undrawn unordered. tt;
      found = all.found;
      all = all.all;
      cores = all.cores;
      once = all.once;
      told = all.told;
      written = λ unkept undrawn.
          unput (settings_for is.test settings) all.image is.test command Put (state_asked command) all.found.listed
          (all.written unkept undrawn);
      zero = all.zero;
    })
    | inr more ↦ inr (record {
      image = more.image;
      watch = more.watch;
      searched = more.searched;
      kept = λ wanted undrawn unordered. tt;
      beyond = more.beyond;
      printed = more.printed;
      three = more.three;
    })
  ];
}

made_states : (text : List ℕ) (settings : Settings) (command : LitmusCommand) (Put : List ℕ → Type 0)
    (old new : Option (List ℕ)) (answer : Result ℕ Refused) → IfOk answer (LitmusComesTo text settings command Put old new)
    → IfOk answer (IsMade text settings command States States old new)
made_states text settings command Put old new (Ok status) is =
    (refl, unkept text settings command Put old new status is)
made_states text settings command Put old new (Err why) is = tt

-- a copy of the settings is what was made with
pub states_so : (text : List ℕ) (settings copy : Settings) (command : LitmusCommand) (telling : Telling)
    (Put : List ℕ → Type 0) (old new : Option (List ℕ)) (answer : Result ℕ Refused) → copy ≡ settings → telling ≡ States
    → IfOk answer (LitmusComesTo text copy command Put old new)
    → IfOk answer (IsMade text settings command telling telling old new)
states_so text settings copy command telling Put old new answer copied same is =
    subst (λ (t : Telling). IfOk answer (IsMade text settings command t t old new)) (sym same)
    (subst (λ (s : Settings). IfOk answer (IsMade text s command States States old new)) copied
    (made_states text copy command Put old new answer is))

pub states_refused : (text : List ℕ) (settings copy : Settings) (command : LitmusCommand) (telling : Telling)
    (old new : Option (List ℕ)) (answer : Result ℕ Refused) → copy ≡ settings
    → IfErr answer (IsLitmusRefusal text copy command) → IfErr answer (λ reason. (reason ≡ Output) ⊎ (new ≡ old))
    → IfErr answer (IsRefusedTest settings command text telling telling old new)
states_refused text settings copy command telling old new (Ok status) copied refused unprinted = tt
states_refused text settings copy command telling old new (Err why) copied refused unprinted = elim unprinted [
  | inl output ↦ inl output
  | inr kept ↦ inr (subst (λ (s : Settings). IsLitmusRefusal text s command why) copied refused, (refl, kept))
]

pub lines_refused : (text : List ℕ) (settings : Settings) (command : LitmusCommand) (before after : LineTelling)
    (old new : Option (List ℕ)) (answer : Result ℕ Refused)
    → IfErr answer (λ reason. (reason ≡ Output) ⊎ (IsTextRefusal text reason × ((after ≡ before) × (new ≡ old))))
    → IfErr answer (IsRefusedTest settings command text (Lines before) (Lines after) old new)
lines_refused text settings command before after old new (Ok status) refused = tt
lines_refused text settings command before after old new (Err why) refused = elim refused [
  | inl output ↦ inl output
  | inr so ↦ inr (inl so.0, (ap Lines so.1.0, so.1.1))
]

-- what came of a test
pub made_so : {S : Type 0} (hears : S → Refused → S → Type 0) (settings : Settings) (command : LitmusCommand)
    (text : List ℕ) (source : S) (before after : Telling) (old printed new : Option (List ℕ)) (status : ℕ)
    → IsMade text settings command before after old printed status → Keeps printed new
    → CameOf hears settings command (Ok text) source source before after old new status
made_so hears settings command text source before after old printed new status made flushed =
    inl (refl, record { printed = printed; made = made; flushed = flushed })

pub refused_so : {S : Type 0} (hears : S → Refused → S → Type 0) (settings : Settings) (command : LitmusCommand)
    (text : List ℕ) (given left : S) (before mid after : Telling) (old new : Option (List ℕ)) (reason : Refused)
    (status : ℕ) → IsRefusedTest settings command text before mid old new reason → (reason ≡ Output → ⊥)
    → hears given reason left → after ≡ refused_more mid → status ≡ exit_status_of reason
    → CameOf hears settings command (Ok text) given left before after old new status
refused_so hears settings command text given left before mid after old new reason status refused other heard counts is =
    elim refused [
      | inl output ↦ absurd (other output)
      | inr same ↦ inr (record {
        reason = reason;
        refusal = same.0;
        heard = heard;
        counts = counts ∙ ap refused_more same.1.0;
        unprinted = same.1.1;
        is = is;
      })
    ]

module _ {S : Type 0} (gives : S → Option GivenTest → S → Type 0) (hears : S → Refused → S → Type 0)
    (settings : Settings) (command : LitmusCommand) where
  -- so many have come, and this is the worst status so far
  pub record HaveComeSo (source left : S) (before after : Telling) (old new : Option (List ℕ)) (status : ℕ) : Type 0 where
    pub tests : List (GivenTest × ℕ)
    pub come : HaveCome gives hears settings command tests source left before after old new
    pub worst_is : status ≡ worst (map (λ test. test.1) tests)

  pub none_so : (source : S) (before : Telling) (old : Option (List ℕ))
      → HaveComeSo source source before before old old 0
  none_so source before old = record { tests = []; come = (refl, refl, refl); worst_is = refl }

  pub one_more : (source earlier given left : S) (before between after : Telling) (old mid new : Option (List ℕ))
      (test : GivenTest) (status came more : ℕ) → HaveComeSo source earlier before between old mid status
      → gives earlier (Some test) given → CameOf hears settings command test given left between after mid new came
      → more ≡ worse status came → HaveComeSo source left before after old new more
  one_more source earlier given left before between after old mid new test status came more so is_given is_came is = record {
    tests = (test, came) ∷ so.tests;
    come = (earlier, given, between, mid, so.come, is_given, is_came);
    worst_is = is ∙ ap (λ w. worse w came) so.worst_is;
  }

  pub all_so : (source last left : S) (before after : Telling) (old new : Option (List ℕ)) (status : ℕ)
      → HaveComeSo source last before after old new status → gives last None left
      → AllHaveCome gives hears settings command source left before after old new status
  all_so source last left before after old new status so ended =
      record { tests = so.tests; last = last; come = so.come; ended = ended; worst_is = so.worst_is }
