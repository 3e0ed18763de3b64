-- What is said of a test in a line.
use Rattle.std.specs.Prelude.{◌≡◌, ℕ, Result, Ok, Err, IfOk, length, is_some}
use Rattle.std.proofs.Common.{refl, subst}
use mathlib.Core.Logic.{inl, inr}
use Rattle.elf_image.specs.Image.{ProgramImage}
use Rattle.outcomes.specs.{Found.Found, Found.InEachSetup, Found.IsExactList}
use Rattle.watched_outcomes.specs.{declared.watch.Watch.Watch}
use Rattle.outcomes.specs.{Found.CoversCores, Found.IsOnce, Refusals.IsBeyond}
use Rattle.litmus_tests.specs.declared.test.LitmusTest.{LitmusTest}
use Rattle.litmus_text.specs.Verdict.{verdict_of}
use Rattle.litmus_suites.specs.declared.verdict.Verdict.{Verdict}
use Rattle.litmus_suites.specs.declared.verdict.Verdict.TheVariants.{NotComplete}
use Rattle.command_parts.specs.declared.refused.Refused.{Refused}
use Rattle.plain_commands.specs.Litmus.{IsSearched}
use Rattle.plain_commands.specs.Suite.{Says, said_of}

-- What a search of so many harts finds is so for as many as the test has.
module _ (test : LitmusTest) (states : ℕ) (image : ProgramImage) (watch : Watch) (harts : ℕ)
    (count : harts ≡ length test.threads.items) (searched : IsSearched test image watch) where
  pub all_said : (found : Found) → InEachSetup image harts (λ setup. IsExactList setup watch found)
      → InEachSetup image harts (λ setup. CoversCores setup watch found) → IsOnce found
      → (answer : Result Verdict Refused)
      → IfOk answer (λ says. says ≡ said_of (verdict_of test found.listed) (is_some found.stuck))
      → IfOk answer (Says test states)
  all_said found all cores once (Ok verdict) says = inl (record {
    image = image;
    watch = watch;
    searched = searched;
    found = found;
    all = subst (λ n. InEachSetup image n (λ setup. IsExactList setup watch found)) count all;
    cores = subst (λ n. InEachSetup image n (λ setup. CoversCores setup watch found)) count cores;
    once = once;
    says = says;
  })
  all_said found all cores once (Err why) says = tt

  pub more_said : IsBeyond image harts states → Says test states NotComplete
  more_said beyond = inr (record {
    image = image;
    watch = watch;
    searched = searched;
    beyond = subst (λ n. IsBeyond image n states) count beyond;
    says = refl;
  })
