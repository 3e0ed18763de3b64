-- The exit status of several litmus tests is one of the program's.
use Rattle.std.specs.Prelude.{◌≡◌, ℕ, nat_lt, Bool, true, false, List, [], ◌∷◌, if◌then◌else◌, map, Option, Ok, Err}
use Rattle.std.proofs.Common.{refl, sym, subst}
use mathlib.Core.Logic.{inl, inr}
use Rattle.litmus_suites.specs.Sources.{GivenTest, no_test_status}
use Rattle.litmus_suites.specs.Statuses.{badness, worse, worst}
use Rattle.litmus_suites.specs.declared.no_test.NoTest.{NoTest}
use Rattle.litmus_suites.specs.declared.no_test.NoTest.TheVariants as absent
use Rattle.litmus_suites.specs.declared.verdict.Verdict.{Verdict}
use Rattle.litmus_suites.specs.declared.verdict.Verdict.TheVariants.{Whole, NotComplete}
use Rattle.litmus_suites.specs.declared.counts.Differences.{Differences}
use Rattle.litmus_suites.specs.Counting.{status_of as status_of_differences}
use Rattle.sim_inputs.specs.{declared.settings.Settings.Settings, declared.line.LitmusCommand.LitmusCommand}
use Rattle.command_parts.specs.declared.refused.Refused.{Refused}
use Rattle.plain_commands.specs.Litmus.{LitmusComesTo}
use Rattle.plain_commands.specs.Suite.{CameOf, HaveCome, IsFinished, IsKnown, IsMade, SuiteComesTo, status_of, with_gone}
use Rattle.plain_commands.specs.declared.telling.Telling.{Telling}
use Rattle.plain_commands.specs.declared.telling.Telling.TheVariants.{States, Lines}
use Rattle.plain_commands.specs.declared.telling.LineTelling.TheVariants.{Summary, Comparison}
use Rattle.commands.proofs.OfLine.{known_refusal}

known_as : (a b : ℕ) → a ≡ b → IsKnown b → IsKnown a
known_as a b is known = subst IsKnown (sym is) known

known_0 : IsKnown 0
known_0 = inl refl

known_3 : IsKnown 3
known_3 = inl refl

known_worse : (one other : ℕ) → IsKnown one → IsKnown other → IsKnown (worse one other)
known_worse one other is so = pick (nat_lt (badness one) (badness other))
  where
    pick : (t : Bool) → IsKnown (if t then other else one)
    pick true = so
    pick false = is

known_absent : (why : NoTest) → IsKnown (no_test_status why)
known_absent absent.File = inr (inr (inr refl))
known_absent absent.Memory = inr (inr (inr refl))
known_absent absent.Empty = inr (inl refl)
known_absent (absent.List line fault) = inr (inl refl)

known_verdict : (verdict : Verdict) → IsKnown (status_of verdict)
known_verdict (Whole held others asked stuck) = known_0
known_verdict NotComplete = known_3

known_litmus : (text : List ℕ) (settings : Settings) (command : LitmusCommand) (Put : List ℕ → Type 0)
    (old new : Option (List ℕ)) (status : ℕ) → LitmusComesTo text settings command Put old new status → IsKnown status
known_litmus text settings command Put old new status is = elim is.comes [
  | inl all ↦ known_as status 0 all.zero known_0
  | inr more ↦ known_as status 3 more.three known_3
]

known_made : (text : List ℕ) (settings : Settings) (command : LitmusCommand) (before after : Telling)
    (old new : Option (List ℕ)) (status : ℕ) → IsMade text settings command before after old new status → IsKnown status
known_made text settings command States after old new status made =
    known_litmus text settings command _ old new status made.1
known_made text settings command (Lines lines) after old new status made =
    known_as status (status_of made.2.line.verdict) made.2.is (known_verdict made.2.line.verdict)

module _ {S : Type 0} (gives : S → Option GivenTest → S → Type 0) (hears : S → Refused → S → Type 0)
    (settings : Settings) (command : LitmusCommand) where
  known_came : (test : GivenTest) (given left : S) (before after : Telling) (old new : Option (List ℕ)) (status : ℕ)
      → CameOf hears settings command test given left before after old new status → IsKnown status
  known_came (Ok text) given left before after old new status came = elim came [
    | inl made ↦ known_made text settings command before after old made.1.printed status made.1.made
    | inr refused ↦ known_refusal refused.reason status refused.is
  ]
  known_came (Err why) given left before after old new status came =
      known_as status (no_test_status why) came.3 (known_absent why)

  known_worst : (tests : List (GivenTest × ℕ)) (source left : S) (before after : Telling) (old new : Option (List ℕ))
      → HaveCome gives hears settings command tests source left before after old new
      → IsKnown (worst (map (λ test. test.1) tests))
  known_worst [] source left before after old new come = known_0
  known_worst (test ∷ past) source left before after old new come =
      known_worse (worst (map (λ t. t.1) past)) test.1
      (known_worst past source come.0 before come.2 old come.3 come.4)
      (known_came test.0 come.1 left come.2 after come.3 new test.1 come.6)

  known_differences : (differences : Differences) → IsKnown (status_of_differences differences)
  known_differences differences = pick _
    where
      pick : (t : Bool) → IsKnown (if t then 0 else 1)
      pick true = known_0
      pick false = inl refl

  known_finished : (telling : Telling) (old new : Option (List ℕ)) (status : ℕ) → IsFinished telling old new status
      → IsKnown status
  known_finished States old new status is = known_as status 0 is.1 known_0
  known_finished (Lines (Summary counts)) old new status is = known_as status 0 is.1 known_0
  known_finished (Lines (Comparison expected differences)) old new status is =
      known_as status _ is.1 (known_differences (with_gone expected differences))

  pub known_suite : (source left : S) (telling : Telling) (old new : Option (List ℕ)) (status : ℕ)
      → SuiteComesTo gives hears settings command source left telling old new status → IsKnown status
  known_suite source left telling old new status is =
      known_as status (worse is.worst is.last) is.is (known_worse is.worst is.last
      (known_as is.worst _ is.all.worst_is
      (known_worst is.all.tests source is.all.last telling is.after old is.mid is.all.come))
      (known_finished is.after is.mid is.printed is.last is.finished))
