-- Lines of several litmus tests: when they are refused, and what is printed of their tests.
use Rattle.std.specs.Prelude.{◌≡◌, ℕ, true, List, Option, is_some, Ok, Err}
use Rattle.std.proofs.Common.{refl, sym, subst}
use mathlib.Core.Logic.{inl, inr}
use Rattle.litmus_suites.specs.Sources.{GivenTest}
use Rattle.litmus_suites.specs.Reading.{AreLinesOf, IsFirstRefused}
use Rattle.litmus_suites.specs.Counting.{no_differences}
use Rattle.litmus_suites.specs.declared.expectation.Expectation.{Expectation}
use Rattle.sim_inputs.specs.{declared.settings.Settings.Settings, Configuration.IsConfiguration}
use Rattle.sim_inputs.specs.declared.line.LitmusCommand.{LitmusCommand}
use Rattle.command_parts.specs.declared.refused.Refused.{Refused}
use Rattle.command_parts.specs.declared.refused.Refused.TheVariants as reason
use Rattle.command_parts.specs.declared.refused.Unread.{Unread}
use Rattle.command_parts.specs.declared.refused.Unread.TheVariants as unread
use Rattle.command_parts.specs.Inputs.{IsConfigRefusal, OfFile, OfSettings, Read}
use Rattle.command_parts.specs.Refused.{refusal_of}
use Rattle.plain_commands.specs.Suite.{IsSuiteRefusal, SuiteComesTo}
use Rattle.plain_commands.specs.declared.telling.Telling.{Telling}
use Rattle.plain_commands.specs.declared.telling.Telling.TheVariants.{Lines}
use Rattle.plain_commands.specs.declared.telling.LineTelling.TheVariants.{Comparison}
use Rattle.commands.specs.Suites.{IsSuiteLineFault, IsTellingOf, SuiteLineComesTo}

-- What holds of the settings, and more of them.
pub of_settings : (config : Read) (P Q : Settings → Type 0) → OfSettings config P
    → ((settings : Settings) → P settings → Q settings) → OfSettings config Q
of_settings (Ok text) P Q is more = (is.0, is.1, more is.0 is.2)
of_settings (Err why) P Q is more = absurd is

pub configured : (config : Read) (text : List ℕ) (settings : Settings) → config ≡ Ok text
    → IsConfiguration text settings → OfFile config (λ text. IsConfiguration text settings)
configured config text settings same is =
    subst (λ (c : Read). OfFile c (λ text. IsConfiguration text settings)) (sym same) is

pub settled : (config : Read) (settings : Settings) (P : Settings → Type 0)
    → OfFile config (λ text. IsConfiguration text settings) → P settings → OfSettings config P
settled (Ok text) settings P is so = (settings, is, so)
settled (Err why) settings P is so = absurd is

-- What a line comes to, of what its tests come to.
pub line_comes : {S : Type 0} (gives : S → Option GivenTest → S → Type 0) (hears : S → Refused → S → Type 0)
    (litmus : LitmusCommand) (config summary : Read) (settings : Settings) (telling : Telling) (source left : S)
    (old new : Option (List ℕ)) (status : ℕ) → OfFile config (λ text. IsConfiguration text settings)
    → IsTellingOf litmus summary telling → SuiteComesTo gives hears settings litmus source left telling old new status
    → SuiteLineComesTo gives hears litmus config summary source left old new status
line_comes gives hears litmus config summary settings telling source left old new status configured told is =
    settled config settings _ configured (telling, told, is)

-- It ends before only for what every line may end for.
pub suite_fault : (litmus : LitmusCommand) (config summary : Read) (why : Refused) → IsSuiteRefusal why
    → IsSuiteLineFault litmus config summary why
suite_fault litmus config summary (reason.Image number) is = absurd is
suite_fault litmus config summary reason.Config is = absurd is
suite_fault litmus config summary reason.Harts is = absurd is
suite_fault litmus config summary (reason.Script number) is = absurd is
suite_fault litmus config summary (reason.Order index) is = absurd is
suite_fault litmus config summary (reason.Step index stopped) is = absurd is
suite_fault litmus config summary (reason.Trace line rule) is = absurd is
suite_fault litmus config summary reason.Version is = absurd is
suite_fault litmus config summary (reason.Event index rule) is = absurd is
suite_fault litmus config summary (reason.Prediction index) is = absurd is
suite_fault litmus config summary (reason.Register index) is = absurd is
suite_fault litmus config summary (reason.NoUnit kind) is = absurd is
suite_fault litmus config summary (reason.Limit least) is = absurd is
suite_fault litmus config summary (reason.NoHart hart) is = absurd is
suite_fault litmus config summary (reason.Lines number fault) is = absurd is
suite_fault litmus config summary (reason.NamesNothing option) is = absurd is
suite_fault litmus config summary (reason.NamesSeveral option) is = absurd is
suite_fault litmus config summary (reason.NeverFetched option) is = absurd is
suite_fault litmus config summary (reason.Turned from to) is = absurd is
suite_fault litmus config summary (reason.Picture last) is = absurd is
suite_fault litmus config summary (reason.Watch why) is = absurd is
suite_fault litmus config summary (reason.Condition why) is = absurd is
suite_fault litmus config summary reason.ManyWatched is = absurd is
suite_fault litmus config summary (reason.NoWord address) is = absurd is
suite_fault litmus config summary (reason.NoOutcome number) is = absurd is
suite_fault litmus config summary reason.NotStuck is = absurd is
suite_fault litmus config summary reason.LongStory is = absurd is
suite_fault litmus config summary reason.NoAnswer is = absurd is
suite_fault litmus config summary (reason.Litmus place fault) is = absurd is
suite_fault litmus config summary reason.NothingToDraw is = absurd is
suite_fault litmus config summary reason.Memory is = tt
suite_fault litmus config summary reason.Thread is = absurd is
suite_fault litmus config summary reason.File is = absurd is
suite_fault litmus config summary reason.Output is = tt

-- A configuration that is refused, or unread.
config_fault : (litmus : LitmusCommand) (text : List ℕ) (summary : Read) (why : Refused) → IsConfigRefusal text why
    → IsSuiteLineFault litmus (Ok text) summary why
config_fault litmus text summary (reason.Image number) is = absurd is
config_fault litmus text summary reason.Config is = is
config_fault litmus text summary reason.Harts is = absurd is
config_fault litmus text summary (reason.Script number) is = absurd is
config_fault litmus text summary (reason.Order index) is = absurd is
config_fault litmus text summary (reason.Step index stopped) is = absurd is
config_fault litmus text summary (reason.Trace line rule) is = absurd is
config_fault litmus text summary reason.Version is = absurd is
config_fault litmus text summary (reason.Event index rule) is = absurd is
config_fault litmus text summary (reason.Prediction index) is = absurd is
config_fault litmus text summary (reason.Register index) is = absurd is
config_fault litmus text summary (reason.NoUnit kind) is = absurd is
config_fault litmus text summary (reason.Limit least) is = absurd is
config_fault litmus text summary (reason.NoHart hart) is = absurd is
config_fault litmus text summary (reason.Lines number fault) is = absurd is
config_fault litmus text summary (reason.NamesNothing option) is = absurd is
config_fault litmus text summary (reason.NamesSeveral option) is = absurd is
config_fault litmus text summary (reason.NeverFetched option) is = absurd is
config_fault litmus text summary (reason.Turned from to) is = absurd is
config_fault litmus text summary (reason.Picture last) is = absurd is
config_fault litmus text summary (reason.Watch why) is = absurd is
config_fault litmus text summary (reason.Condition why) is = absurd is
config_fault litmus text summary reason.ManyWatched is = absurd is
config_fault litmus text summary (reason.NoWord address) is = absurd is
config_fault litmus text summary (reason.NoOutcome number) is = absurd is
config_fault litmus text summary reason.NotStuck is = absurd is
config_fault litmus text summary reason.LongStory is = absurd is
config_fault litmus text summary reason.NoAnswer is = absurd is
config_fault litmus text summary (reason.Litmus place fault) is = absurd is
config_fault litmus text summary reason.NothingToDraw is = absurd is
config_fault litmus text summary reason.Memory is = tt
config_fault litmus text summary reason.Thread is = absurd is
config_fault litmus text summary reason.File is = absurd is
config_fault litmus text summary reason.Output is = absurd is

pub config_refused : (litmus : LitmusCommand) (config summary : Read) (text : List ℕ) (why : Refused)
    → config ≡ Ok text → IsConfigRefusal text why → IsSuiteLineFault litmus config summary why
config_refused litmus config summary text why same is =
    subst (λ (c : Read). IsSuiteLineFault litmus c summary why) (sym same) (config_fault litmus text summary why is)

unread_fault : (litmus : LitmusCommand) (config summary : Read) (why : Unread) → config ≡ Err why
    → IsSuiteLineFault litmus config summary (refusal_of why)
unread_fault litmus config summary unread.File same = inl same
unread_fault litmus config summary unread.Memory same = tt

pub config_unread : (litmus : LitmusCommand) (config summary : Read) (why : Unread) (refused : Refused)
    → config ≡ Err why → refused ≡ refusal_of why → IsSuiteLineFault litmus config summary refused
config_unread litmus config summary why refused same is =
    subst (IsSuiteLineFault litmus config summary) (sym is) (unread_fault litmus config summary why same)

-- A summary that is unread, or refused.
lost_fault : (litmus : LitmusCommand) (config summary : Read) (why : Unread) → OfSettings config (λ settings. Unit {0})
    → is_some litmus.expect ≡ true → summary ≡ Err why → IsSuiteLineFault litmus config summary (refusal_of why)
lost_fault litmus config summary unread.File is wanted same =
    inr (of_settings config _ _ is (λ settings so. (wanted, same)))
lost_fault litmus config summary unread.Memory is wanted same = tt

pub summary_unread : (litmus : LitmusCommand) (summary : Read) (why : Unread) (refused : Refused)
    → is_some litmus.expect ≡ true → summary ≡ Err why → refused ≡ refusal_of why → (config : Read)
    → OfSettings config (λ settings. Unit {0}) → IsSuiteLineFault litmus config summary refused
summary_unread litmus summary why refused wanted same is config configured =
    subst (IsSuiteLineFault litmus config summary) (sym is) (lost_fault litmus config summary why configured wanted same)

pub summary_refused : (summary : Read) (text : List ℕ) (number : ℕ) → summary ≡ Ok text → IsFirstRefused text number
    → (config : Read) → OfSettings config (λ settings. Unit {0})
    → OfSettings config (λ settings. OfFile summary (λ text. IsFirstRefused text number))
summary_refused summary text number same is config configured =
    of_settings config _ _ configured (λ settings so.
    subst (λ (s : Read). OfFile s (λ text. IsFirstRefused text number)) (sym same) is)

-- The summary with which the tests are compared.
pub compared : (litmus : LitmusCommand) (summary : Read) (text : List ℕ) (expected : Expectation)
    → is_some litmus.expect ≡ true → summary ≡ Ok text → AreLinesOf text expected.lines.items
    → IsTellingOf litmus summary (Lines (Comparison expected no_differences))
compared litmus summary text expected wanted same is = (
  wanted,
  refl,
  subst (λ (s : Read). OfFile s (λ text. AreLinesOf text expected.lines.items)) (sym same) is,
)
