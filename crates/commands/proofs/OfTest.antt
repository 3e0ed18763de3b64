-- The line of a litmus test: what is refused of it, and what it comes to, behind a configuration.
use Rattle.std.specs.Prelude.{◌≡◌, ◌⊎◌, ℕ, List, Option, Some, None, Ok, Result, IfErr, IfOk}
use Rattle.std.proofs.Common.{sym, subst}
use mathlib.Core.Logic.{inl, inr}
use Rattle.std.specs.Io.KnownBytes.{Keeps}
use Rattle.core_state.specs.View.{CoreView}
use Rattle.sim_inputs.specs.{declared.settings.Settings.Settings, Configuration.IsConfiguration}
use Rattle.sim_inputs.specs.declared.line.LitmusCommand.{LitmusCommand}
use Rattle.command_parts.specs.declared.refused.Refused.{Refused}
use Rattle.command_parts.specs.declared.refused.Refused.TheVariants as reason
use Rattle.plain_commands.specs.Litmus.{LitmusComesTo}
use Rattle.core_commands.specs.TestRuns.{IsTestRunsRefusal, TestRunsComeTo}
use Rattle.commands.specs.{Perform.IsLitmusLineRefusal, Perform.LitmusLineComesTo, Tested.IsTestedRefusal, Tested.TestedComesTo}
use Rattle.commands.proofs.Sound.{kept}

-- No order is refused so, be it for its script or by the machine.
neither : {A B : Type 0} → B × ((A × ⊥) ⊎ ⊥) → ⊥
neither is = elim is.1 [
  | inl script ↦ script.1
  | inr machine ↦ machine
]

-- A test that was read isn't refused as a file that can't be.
no_file : (run : Option ℕ) (text : List ℕ) (settings : Settings) (litmus : LitmusCommand)
    → IsTestedRefusal run text settings litmus reason.File → ⊥
no_file None text settings litmus (inl is) = is
no_file None text settings litmus (inr is) = elim is.3 [
  | inl states ↦ states
  | inr order ↦ elim order.holds [
    | inl lacks ↦ lacks
    | inr written ↦ neither written.1
  ]
]
no_file (Some times) text settings litmus (inl is) = is
no_file (Some times) text settings litmus (inr is) = is.3

-- What is put out may fail behind a test that makes sense.
output_of : (run : Option ℕ) (text : List ℕ) (settings : Settings) (litmus : LitmusCommand) (Put : List ℕ → Type 0)
    (old new : Option (List ℕ)) (status : ℕ) → TestedComesTo run text settings litmus Put old new status
    → IsTestedRefusal run text settings litmus reason.Output
output_of None text settings litmus Put old new status is =
    inr (is.test, is.is_text, is.well_formed, inl tt)
output_of (Some times) text settings litmus Put old new status is =
    inr (is.test, is.is_text, is.well_formed, tt)

-- A flush changes nothing of what it comes to.
flushed_states : (text : List ℕ) (settings : Settings) (litmus : LitmusCommand) (Put : List ℕ → Type 0)
    (old mid new : Option (List ℕ)) (status : ℕ) → LitmusComesTo text settings litmus Put old mid status → Keeps mid new
    → LitmusComesTo text settings litmus Put old new status
flushed_states text settings litmus Put old mid new status is flushed = record {
  test = is.test;
  is_text = is.is_text;
  well_formed = is.well_formed;
  comes = elim is.comes [
    | inl all ↦ inl (record {
      image = all.image;
      watch = all.watch;
      searched = all.searched;
      kept = all.kept;
      found = all.found;
      all = all.all;
      cores = all.cores;
      once = all.once;
      told = record {
        why = all.told.why;
        is_why = all.told.is_why;
        printed = kept old mid new _ all.told.printed flushed;
      };
      written = all.written;
      zero = all.zero;
    })
    | inr more ↦ inr (record {
      image = more.image;
      watch = more.watch;
      searched = more.searched;
      kept = more.kept;
      beyond = more.beyond;
      printed = kept old mid new _ more.printed flushed;
      three = more.three;
    })
  ];
}

flushed_runs : (text : List ℕ) (settings : Settings) (litmus : LitmusCommand) (times : ℕ)
    (Made : List CoreView → Type 0) (Put : List ℕ → Type 0) (old mid new : Option (List ℕ)) (status : ℕ)
    → TestRunsComeTo text settings litmus times Made Put old mid status → Keeps mid new
    → TestRunsComeTo text settings litmus times Made Put old new status
flushed_runs text settings litmus times Made Put old mid new status is flushed = record {
  test = is.test;
  is_text = is.is_text;
  well_formed = is.well_formed;
  comes = elim is.comes [
    | inl all ↦ inl (record {
      image = all.image;
      watch = all.watch;
      searched = all.searched;
      kept = all.kept;
      found = all.found;
      all = all.all;
      covers = all.covers;
      once = all.once;
      counted = record {
        accepted = all.counted.accepted;
        manned = all.counted.manned;
        cores = all.counted.cores;
        many = all.counted.many;
        are = all.counted.are;
        made = all.counted.made;
        printed = kept old mid new _ all.counted.printed flushed;
        stands = all.counted.stands;
      };
      adds_up = all.adds_up;
    })
    | inr more ↦ inr (record {
      image = more.image;
      watch = more.watch;
      searched = more.searched;
      kept = more.kept;
      beyond = more.beyond;
      printed = kept old mid new _ more.printed flushed;
      three = more.three;
    })
  ];
}

flushed_so : (run : Option ℕ) (text : List ℕ) (settings : Settings) (litmus : LitmusCommand) (Put : List ℕ → Type 0)
    (old mid new : Option (List ℕ)) (status : ℕ) → TestedComesTo run text settings litmus Put old mid status
    → Keeps mid new → TestedComesTo run text settings litmus Put old new status
flushed_so None text settings litmus Put old mid new status is flushed =
    flushed_states text settings litmus Put old mid new status is flushed
flushed_so (Some times) text settings litmus Put old mid new status is flushed =
    flushed_runs text settings litmus times (λ cores. Unit {0}) Put old mid new status is flushed

module _ (litmus : LitmusCommand) (text file : List ℕ) (settings : Settings)
    (configured : IsConfiguration text settings) where
  pub test_refusal : (why : Refused) → IsTestedRefusal litmus.run file settings litmus why
      → IsLitmusLineRefusal litmus (Ok text) (Ok file) why
  test_refusal (reason.Image number) is = (settings, configured, is)
  test_refusal reason.Config is = inr (settings, configured, is)
  test_refusal reason.Harts is = (settings, configured, is)
  test_refusal (reason.Script number) is = (settings, configured, is)
  test_refusal (reason.Order index) is = (settings, configured, is)
  test_refusal (reason.Step index stopped) is = (settings, configured, is)
  test_refusal (reason.Trace line rule) is = (settings, configured, is)
  test_refusal reason.Version is = (settings, configured, is)
  test_refusal (reason.Event index rule) is = (settings, configured, is)
  test_refusal (reason.Prediction index) is = (settings, configured, is)
  test_refusal (reason.Register index) is = (settings, configured, is)
  test_refusal (reason.NoUnit kind) is = (settings, configured, is)
  test_refusal (reason.Limit least) is = (settings, configured, is)
  test_refusal (reason.NoHart hart) is = (settings, configured, is)
  test_refusal (reason.Lines number fault) is = (settings, configured, is)
  test_refusal (reason.NamesNothing option) is = (settings, configured, is)
  test_refusal (reason.NamesSeveral option) is = (settings, configured, is)
  test_refusal (reason.NeverFetched option) is = (settings, configured, is)
  test_refusal (reason.Turned from to) is = (settings, configured, is)
  test_refusal (reason.Picture last) is = (settings, configured, is)
  test_refusal (reason.Watch why) is = (settings, configured, is)
  test_refusal (reason.Condition why) is = (settings, configured, is)
  test_refusal reason.ManyWatched is = (settings, configured, is)
  test_refusal (reason.NoWord address) is = (settings, configured, is)
  test_refusal (reason.NoOutcome number) is = (settings, configured, is)
  test_refusal reason.NotStuck is = (settings, configured, is)
  test_refusal reason.LongStory is = (settings, configured, is)
  test_refusal reason.NoAnswer is = (settings, configured, is)
  test_refusal (reason.Litmus place fault) is = (settings, configured, is)
  test_refusal reason.NothingToDraw is = (settings, configured, is)
  test_refusal reason.Memory is = tt
  test_refusal reason.Thread is = (settings, configured, is)
  test_refusal reason.File is = absurd (no_file litmus.run file settings litmus is)
  test_refusal reason.Output is = (settings, configured, is)

  module _ (Put : List ℕ → Type 0) (old mid : Option (List ℕ)) (status : ℕ)
      (is : TestedComesTo litmus.run file settings litmus Put old mid status) where
    pub test_output : IsLitmusLineRefusal litmus (Ok text) (Ok file) reason.Output
    test_output = (settings, configured, output_of litmus.run file settings litmus Put old mid status is)

    pub test_flushed : (new : Option (List ℕ)) → Keeps mid new
        → LitmusLineComesTo litmus (Ok text) (Ok file) Put old new status
    test_flushed new flushed =
        (settings, configured, flushed_so litmus.run file settings litmus Put old mid new status is flushed)

-- By whether runs are asked for.
pub run_refused : (run : Option ℕ) (times : ℕ) → run ≡ Some times → (text : List ℕ) (settings : Settings)
    (litmus : LitmusCommand) (answer : Result ℕ Refused) → IfErr answer (IsTestRunsRefusal text settings)
    → IfErr answer (IsTestedRefusal run text settings litmus)
run_refused run times is text settings litmus answer refused =
    subst (λ (r : Option ℕ). IfErr answer (IsTestedRefusal r text settings litmus)) (sym is) refused

pub run_ended : (run : Option ℕ) (times : ℕ) → run ≡ Some times → (text : List ℕ) (settings : Settings)
    (litmus : LitmusCommand) (Put : List ℕ → Type 0) (old new : Option (List ℕ)) (answer : Result ℕ Refused)
    → IfOk answer (TestRunsComeTo text settings litmus times (λ cores. Unit {0}) Put old new)
    → IfOk answer (TestedComesTo run text settings litmus Put old new)
run_ended run times is text settings litmus Put old new answer ended =
    subst (λ (r : Option ℕ). IfOk answer (TestedComesTo r text settings litmus Put old new)) (sym is) ended
