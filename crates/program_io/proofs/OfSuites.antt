-- Lines of several litmus tests.
use Rattle.std.specs.Prelude.{◌≡◌, ◌⊎◌, ℕ, true, List, [], ◌∷◌, length, Option, Some, None, Ok, Err}
use Rattle.std.specs.Borrow.{Bor}
use Rattle.std.proofs.Common.{refl, sym, ap, subst}
use mathlib.Core.Logic.{inl, inr}
use Rattle.sim_inputs.specs.declared.line.Line.{Line}
use Rattle.sim_inputs.specs.declared.line.LitmusCommand.{LitmusCommand}
use Rattle.sim_inputs.specs.declared.line.Command.TheVariants.{Litmus}
use Rattle.sim_inputs.specs.Files.{files_of}
use Rattle.command_parts.specs.declared.refused.Refused.{Refused}
use Rattle.command_parts.specs.declared.refused.Refused.TheVariants.{Memory}
use Rattle.command_parts.specs.{Inputs.Read, Refused.exit_status_of}
use Rattle.plain_commands.specs.Suite.{IsKnown, CameOf, HaveCome, SuiteComesTo}
use Rattle.plain_commands.specs.declared.telling.Telling.{Telling}
use Rattle.commands.specs.Suites.{SuiteLineComesTo}
use Rattle.sim_inputs.specs.declared.settings.Settings.{Settings}
use Rattle.commands.specs.declared.suites.SuiteRefused.TheVariants as refused
use Rattle.litmus_suites.specs.Sources.{GivenTest}
use Rattle.sim_inputs.specs.SeveralTests.{tests_named}
use Rattle.program_io.specs.Names.{IsGiven, IsHeard}
use Rattle.program_io.specs.Performed.{HasTested, IsReadAs, SuiteHasCome, SuiteIsRefused, may_be_several}

-- A file may be read as an empty one, where nothing else is known of it.
read_empty : (name : Option (Bor (List ℕ))) → IsReadAs name (Ok [])
read_empty None = refl
read_empty (Some name) = tt

-- What is told of the tests of a source holds of how many of its names haven't come to anything.
abbrev Gives : {S : Type 0} (names : S → ℕ) (gives : S → Option GivenTest → S → Type 0) → Type 0
Gives {S} names gives = (source : S) (given : Option GivenTest) (after : S) → gives source given after
    → IsGiven (names source) given (names after)

abbrev Hears : {S : Type 0} (names : S → ℕ) (hears : S → Refused → S → Type 0) → Type 0
Hears {S} names hears = (source : S) (why : Refused) (after : S) → hears source why after
    → IsHeard (names source) why (names after)

one_came : {S : Type 0} (names : S → ℕ) (hears : S → Refused → S → Type 0) → Hears names hears
    → (settings : Settings) (command : LitmusCommand) (given : GivenTest) (source left : S) (before after : Telling)
    (old new : Option (List ℕ)) (status : ℕ)
    → CameOf hears settings command given source left before after old new status
    → CameOf IsHeard settings command given (names source) (names left) before after old new status
one_came names hears heard settings command (Ok text) source left before after old new status came = elim came [
  | inl made ↦ inl (ap names made.0, made.1)
  | inr none ↦
      inr (record {
        reason = none.reason;
        refusal = none.refusal;
        heard = heard source none.reason left none.heard;
        counts = none.counts;
        unprinted = none.unprinted;
        is = none.is;
      })
]
one_came names hears heard settings command (Err why) source left before after old new status came =
    (ap names came.0, came.1, came.2, came.3)

all_came : {S : Type 0} (names : S → ℕ) (gives : S → Option GivenTest → S → Type 0)
    (hears : S → Refused → S → Type 0) → Gives names gives → Hears names hears
    → (settings : Settings) (command : LitmusCommand) (tests : List (GivenTest × ℕ)) (source left : S)
    (before after : Telling) (old new : Option (List ℕ))
    → HaveCome gives hears settings command tests source left before after old new
    → HaveCome IsGiven IsHeard settings command tests (names source) (names left) before after old new
all_came names gives hears given heard settings command [] source left before after old new came =
    (ap names came.0, came.1, came.2)
all_came names gives hears given heard settings command (test ∷ past) source left before after old new came = (
  names came.0,
  names came.1,
  came.2,
  came.3,
  all_came names gives hears given heard settings command past source came.0 before came.2 old came.3 came.4,
  given came.0 (Some test.0) came.1 came.5,
  one_came names hears heard settings command test.0 came.1 left came.2 after came.3 new test.1 came.6,
)

suite_came : {S : Type 0} (names : S → ℕ) (gives : S → Option GivenTest → S → Type 0)
    (hears : S → Refused → S → Type 0) → Gives names gives → Hears names hears
    → (settings : Settings) (command : LitmusCommand) (source left : S) (telling : Telling) (old new : Option (List ℕ))
    (status : ℕ) → SuiteComesTo gives hears settings command source left telling old new status
    → SuiteComesTo IsGiven IsHeard settings command (names source) 0 telling old new status
suite_came names gives hears given heard settings command source left telling old new status came = record {
  after = came.after;
  mid = came.mid;
  printed = came.printed;
  worst = came.worst;
  last = came.last;
  all = record {
    tests = came.all.tests;
    last = names came.all.last;
    come = all_came names gives hears given heard settings command came.all.tests source came.all.last telling came.after
        old came.mid came.all.come;
    ended = given came.all.last None left came.all.ended;
    worst_is = came.all.worst_is;
  };
  finished = came.finished;
  flushed = came.flushed;
  is = came.is;
}

pub line_came : {S : Type 0} (names : S → ℕ) (gives : S → Option GivenTest → S → Type 0)
    (hears : S → Refused → S → Type 0)
    → ((source : S) (given : Option GivenTest) (after : S) → gives source given after
    → IsGiven (names source) given (names after))
    → ((source : S) (why : Refused) (after : S) → hears source why after
    → IsHeard (names source) why (names after))
    → (litmus : LitmusCommand) (config summary : Read) (source left : S) (old new : Option (List ℕ)) (status : ℕ)
    → SuiteLineComesTo gives hears litmus config summary source left old new status
    → SuiteHasCome litmus (names source) config summary old new status
line_came names gives hears given heard litmus (Ok text) summary source left old new status came = (
  came.0,
  came.1,
  (
    came.2.0,
    came.2.1,
    suite_came names gives hears given heard came.0 litmus source left came.2.0 old new status came.2.2,
  ),
)
line_came names gives hears given heard litmus (Err why) summary source left old new status came = absurd came

-- There is no memory for the names of the tests.
pub nameless : (words : List (List ℕ)) (line : Line) (litmus : LitmusCommand) (old new : Option (List ℕ)) (status : ℕ)
    → line.command ≡ Litmus litmus → may_be_several litmus ≡ true → status ≡ exit_status_of Memory
    → HasTested words line old new status
nameless words line litmus old new status is_litmus several is = record {
  litmus = litmus;
  is_litmus = is_litmus;
  several = several;
  config = Ok [];
  summary = Ok [];
  has_config = read_empty (files_of line).config;
  has_summary = read_empty (files_of line).second;
  known = inr (inr (inr is));
  ended = inl (record { why = refused.Line Memory; has_status = sym is; refused = tt });
}

-- The tests of so many names were made, with these files.
pub tested : (words : List (List ℕ)) (line : Line) (litmus : LitmusCommand) (names : ℕ) (old new : Option (List ℕ))
    (status : ℕ) (config summary : Read) → line.command ≡ Litmus litmus → may_be_several litmus ≡ true
    → names ≡ length (tests_named words) → IsReadAs (files_of line).config config
    → IsReadAs (files_of line).second summary → IsKnown status
    → SuiteIsRefused litmus config summary status ⊎ SuiteHasCome litmus names config summary old new status
    → HasTested words line old new status
tested words line litmus names old new status config summary is_litmus several named has_config has_summary known ended =
    record {
      litmus = litmus;
      is_litmus = is_litmus;
      several = several;
      config = config;
      summary = summary;
      has_config = has_config;
      has_summary = has_summary;
      known = known;
      ended =
          subst
          (λ (n : ℕ).
          SuiteIsRefused litmus config summary status ⊎ SuiteHasCome litmus n config summary old new status)
          named ended;
    }
