-- The job that an actor has open stays what it is, until the actor hands it back.
use Rattle.std.specs.Prelude.{◌≡◌, ◌≢◌, ◌<◌, ◌≤◌, ◌==◌, ℕ, true, false, List, ◌∷◌, Option, Some, None}
use Rattle.std.proofs.Common.{◌∙◌, refl, arith}
use Rattle.std.proofs.{lemmas.Bool.Decides.nat_tests}
use Rattle.events.specs.declared.event.Event.{Event}
use Rattle.exec_units.specs.Job.{JobView}
use Rattle.smt_model.specs.{Setup.Setup, Kinds.first_source, Kinds.second_source, Jobs.job, Rules.refused, Rules.is_legal}
use Rattle.smt_model.specs.{Fates.stage, Fates.fate, Fates.fetches}
use Rattle.smt_model.specs.Asks.{AskComplete, answers}
use Rattle.smt_model.proofs.{Fates.Sound.sound, Fates.Numbers.known_below, Fates.Numbers.fetching-kept}
use Rattle.smt_model.proofs.Fates.Moves.{complete_lent, drop_lent}
use Rattle.smt_laws.proofs.Registers.Namings.{operand-kept}
use Rattle.smt_laws.proofs.Showing.Answering.{is_complete}
use Rattle.core_state.specs.Answers.{IsJobOf}

pub job_kept : (setup : Setup) (past : List Event) → is_legal setup past → (e : Event) → refused setup past e ≡ None
    → (k : ℕ) → job (e ∷ past) k ≡ job past k → (view : JobView) → IsJobOf setup past k view
    → IsJobOf setup (e ∷ past) k view
job_kept setup past legal e ok k same view is =
    let opened = (sound setup past legal).jobs k view.seq is.lent in
    let known : 1 ≤ stage (fate past view.seq) = grind (arith, nat_tests) in
    let late : stage (fate past view.seq) ≢ 3 = grind (arith, nat_tests) in
    record {
      lent = same ∙ is.lent;
      instruction = is.instruction;
      fetched = fetching-kept setup past legal e ok view.seq (known_below setup past legal view.seq known)
          ∙ is.fetched;
      pc = is.pc;
      op = is.op;
      first = operand-kept setup past e ok first_source view.seq late ∙ is.first;
      second = operand-kept setup past e ok second_source view.seq late ∙ is.second;
    }

-- A completion leaves the jobs of all other actors.
pub complete_others : (k : ℕ) (past : List Event) (e : Event) → answers (AskComplete k) past e ≡ true → (j : ℕ)
    → (k == j) ≡ false → job (e ∷ past) j ≡ job past j
complete_others k past e answered j other =
    is_complete past k e answered (λ x. job (x ∷ past) j ≡ job past j) (λ n outcome. rw other refl) (λ n. rw other refl)

-- Who completes has a job.
pub record HasJob (past : List Event) (k : ℕ) : Type 0 where
  pub seq : ℕ
  pub lent : job past k ≡ Some seq

pub completes_its_job : (setup : Setup) (past : List Event) (k : ℕ) (e : Event) → answers (AskComplete k) past e ≡ true
    → refused setup past e ≡ None → HasJob past k
completes_its_job setup past k e answered =
    is_complete past k e answered (λ x. refused setup past x ≡ None → HasJob past k)
    (λ n outcome ok. record { seq = n; lent = complete_lent setup past k n outcome ok })
    (λ n ok. record { seq = n; lent = drop_lent setup past k n ok })
