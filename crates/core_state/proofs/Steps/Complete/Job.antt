-- A job that is handed back: it is the one that its actor has opened, and its instruction is in flight or was squashed.
use Rattle.std.specs.Prelude.{◌≡◌, ℕ, ◌<◌, ◌≤◌, ◌==◌, ◌||◌, true, false, List, [], ◌∷◌, length, Option, Some}
use Rattle.std.specs.Prelude.{None, slice_index_or}
use Rattle.std.specs.List.{list_any}
use Rattle.std.proofs.Common.{◌∙◌, refl, sym, ap, subst, inl, inr, arith}
use Rattle.std.proofs.{lemmas.Bool.cases_Bool, lemmas.Bool.cases_lt, lemmas.Bool.false≢true}
use Rattle.std.proofs.{lemmas.Bool.Decides.nat_tests, lemmas.List.get_or_past, lemmas.Option.none-some}
use Rattle.std.proofs.{lemmas.Option.same_Some}
use Rattle.numbers.specs.Sizes.{most_actors}
use Rattle.rv_instr.specs.Decode.{op_of_word}
use Rattle.events.specs.declared.event.Event.{Event}
use Rattle.exec_units.specs.Job.{JobView}
use Rattle.smt_model.specs.{Basics.holds_of, Setup.Setup, Kinds.first_source, Kinds.second_source, Flights.flight}
use Rattle.smt_model.specs.{Flights.numbers, Picture.Picture, Picture.picture, Registers.operand, Rules.is_legal}
use Rattle.smt_model.specs.Fates.{fetching, fate, is, is_in_flight, is_of, Squashed}
use Rattle.smt_laws.proofs.Fates.Choosing.{hart_there}
use Rattle.smt_model.proofs.{Lists.member, Lists.filter-member, Fates.Numbers.numbers-member}
use Rattle.smt_model.proofs.Fates.Sound.{sound}
use Rattle.core_parts.specs.Agree.{IsOpenJob, HasOpenJob, JobsAgree}
use Rattle.core_state.specs.{Answers.IsJobOf, Answers.IsStrange}
use Rattle.core_steps.specs.{Complete.IsSameJob}
use Rattle.core_parts.specs.{declared.slot.OpenJob.OpenJob}

pub member_any : (n : ℕ) (xs : List ℕ) → member n xs ≡ list_any (λ s. s == n) xs
member_any n [] = refl
member_any n (x ∷ xs) = ap (λ b. (x == n) || b) (member_any n xs)

-- ---- The job

-- An actor with a job is one of the places.
job_inside : (jobs : List (Option OpenJob)) (k : ℕ) (x : OpenJob) → slice_index_or jobs k None ≡ Some x
    → k < length jobs
job_inside jobs k x at = elim (cases_lt k (length jobs)) [
  | inl under ↦ under
  | inr beyond ↦ absurd (none-some x (sym (get_or_past jobs k None beyond) ∙ at))
]

pub open_job : (p : Picture) (jobs : List (Option OpenJob)) (k : ℕ) (x : OpenJob) → length jobs ≡ most_actors
    → JobsAgree p jobs
    → slice_index_or jobs k None ≡ Some x → IsOpenJob p k x
open_job p jobs k x count agrees at =
    subst (HasOpenJob p k) at (agrees k None (let under = job_inside jobs k x at in omega arith))

module _ (setup : Setup) (past : List Event) where
  pub is_job : (k : ℕ) (x : OpenJob) (view : JobView) → IsOpenJob (picture setup past) k x → IsSameJob x view
      → IsJobOf setup past k view
  is_job k x view opened same = record {
    lent = opened.lent ∙ ap Some same.seq;
    instruction = opened.instruction;
    fetched = ap (fetching past) (sym same.seq) ∙ opened.fetched;
    pc = sym same.pc ∙ sym opened.pc;
    op = sym same.op ∙ opened.op;
    first = ap (operand setup first_source past) (sym same.seq) ∙ opened.first ∙ ap Some same.first;
    second = ap (operand setup second_source past) (sym same.seq) ∙ opened.second ∙ ap Some same.second;
  }

  same_job : (k : ℕ) (x : OpenJob) (view : JobView) → IsOpenJob (picture setup past) k x → IsJobOf setup past k view
      → IsSameJob x view
  same_job k x view opened is =
      let seq : x.seq ≡ view.seq = same_Some x.seq view.seq (sym opened.lent ∙ is.lent) in
      let instruction : opened.instruction ≡ is.instruction =
      same_Some opened.instruction is.instruction (sym opened.fetched ∙ ap (fetching past) seq ∙ is.fetched) in
      record {
        seq = seq;
        op = opened.op ∙ ap (λ f. op_of_word f.word) instruction ∙ sym is.op;
        pc = sym opened.pc ∙ ap (λ f. f.pc) instruction ∙ sym is.pc;
        first = same_Some x.first view.first (sym opened.first ∙ ap (operand setup first_source past) seq ∙ is.first);
        second =
            same_Some x.second view.second (sym opened.second ∙ ap (operand setup second_source past) seq ∙ is.second);
      }

  stranger_at : (k : ℕ) (x : Option OpenJob) (view : JobView) → HasOpenJob (picture setup past) k x
      → ((y : OpenJob) → x ≡ Some y → IsSameJob y view → ⊥) → IsStrange setup past k view
  stranger_at k None view lent other = λ is. none-some view.seq (sym lent ∙ is.lent)
  stranger_at k (Some y) view lent other = λ is. other y refl (same_job k y view lent is)

  -- A job that no place has isn't the actor's.
  pub stranger : is_legal setup past → length setup.roles ≤ most_actors
      → (jobs : List (Option OpenJob)) (k : ℕ) (view : JobView)
      → JobsAgree (picture setup past) jobs
      → ((y : OpenJob) → slice_index_or jobs k None ≡ Some y → IsSameJob y view → ⊥)
      → IsStrange setup past k view
  stranger legal actors jobs k view agrees other = λ is.
      let actor = (sound setup past legal).actors k view.seq is.lent in
      let under : k < most_actors = grind (arith, nat_tests) in
      stranger_at k (slice_index_or jobs k None) view (agrees k None under) other is

  -- ---- Its instruction
  pub job_hart : (k : ℕ) (x : OpenJob) → IsOpenJob (picture setup past) k x → is_of past x.hart x.seq ≡ true
  job_hart k x opened =
      ap (holds_of (λ f. f.hart == x.hart)) opened.fetched ∙ (let same = opened.hart in grind (arith, nat_tests))

  pub job_hart_there : is_legal setup past → (k : ℕ) (x : OpenJob) → IsOpenJob (picture setup past) k x
      → x.hart < setup.harts
  job_hart_there legal k x opened = hart_there setup past legal x.hart x.seq (job_hart k x opened)

  -- An opened job whose instruction isn't in flight was squashed.
  pub job_squashed : is_legal setup past → (k : ℕ) (x : OpenJob) → IsOpenJob (picture setup past) k x
      → list_any (λ s. s == x.seq) (flight past x.hart) ≡ false
      → is (fate past x.seq) Squashed ≡ true
  job_squashed legal k x opened gone =
      let open_now = (sound setup past legal).jobs k x.seq opened.lent in
      elim (cases_Bool (is_in_flight (fate past x.seq))) [
        | inl flies ↦
            let there = filter-member (λ s. is_in_flight (fate past s)) x.seq (numbers past x.hart)
            (numbers-member setup past legal x.hart x.seq (job_hart k x opened)) flies in
            absurd (false≢true (sym gone ∙ sym (member_any x.seq (flight past x.hart)) ∙ there))
        | inr still ↦ grind (arith, nat_tests)
      ]
