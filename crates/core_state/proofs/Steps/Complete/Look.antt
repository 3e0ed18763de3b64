-- What a completion has to say, from what a unit made of its job: the same with the faults of the access and a load's
-- first look. What is computed of an instruction's operands as it completes is what is computed of them as it retires.
use Rattle.std.specs.Prelude.{◌≡◌, ℕ, List, Some, None}
use Rattle.std.proofs.Common.{◌∙◌, refl, sym, ap, inl, inr}
use Rattle.std.proofs.{lemmas.Bool.cases_Bool, lemmas.Option.same_Some}
use Rattle.elf_image.specs.Image.{ProgramImage}
use Rattle.rv_instr.specs.declared.op.Op.{Op}
use Rattle.events.specs.{declared.effect.Outcome.Outcome, declared.event.Event.Event}
use Rattle.exec_units.specs.Job.{JobView, outcome_of_job}
use Rattle.smt_model.specs.{Basics.or_zero, Setup.Setup, Kinds.first_source, Kinds.second_source, Exec.Computed}
use Rattle.smt_model.specs.{Exec.exec, Nexts.is_last, Faults.checked, Outcomes.outcome_of, Looks.first_look}
use Rattle.smt_model.specs.{Picture.picture, Registers.operand, Rules.computed_at, Rules.outcome_now, Rules.is_legal}
use Rattle.smt_model.specs.Fates.{Fetched, Completed, completion, fate, fetching, op_of_fetched, stage}
use Rattle.smt_laws.proofs.Registers.Values.{completed-is}
use Rattle.core_parts.specs.{Agree.IsOpenJob, declared.slot.OpenJob.OpenJob}
use Rattle.core_steps.specs.{Complete.IsSameJob}

-- A fault changes no address.
pub checked-address : (image : ProgramImage) (op : Op) (c : Computed) → (checked image op c).addr ≡ c.addr
unfolding checked
checked-address image op c = elim (cases_Bool (is_last c.next)) [
  | inl last ↦ rw last refl
  | inr going ↦ rw going refl
]

module _ (setup : Setup) (past : List Event) where
  -- What the rules compute of an instruction whose sources hold these numbers.
  pub computed_of_operands : (s : ℕ) (f : Fetched) (a b : ℕ)
      → operand setup first_source past s ≡ Some a → operand setup second_source past s ≡ Some b
      → computed_at setup past s f
      ≡ checked setup.image (op_of_fetched (Some f)) (exec (op_of_fetched (Some f)) f.pc a b)
  computed_of_operands s f a b first second =
      let op = op_of_fetched (Some f) in
      ap (λ x. checked setup.image op (exec op f.pc (or_zero x) (or_zero (operand setup second_source past s)))) first
      ∙ ap (λ y. checked setup.image op (exec op f.pc a (or_zero y))) second

  -- What a completion has to say: what is computed, with its fault, and the number that a load sees at its address.
  pub outcome_of_operands : (s : ℕ) (f : Fetched) (a b : ℕ)
      → operand setup first_source past s ≡ Some a → operand setup second_source past s ≡ Some b
      → let op = op_of_fetched (Some f) in let c = exec op f.pc a b in
      outcome_now setup past s f
      ≡ outcome_of op (checked setup.image op c) (Some (first_look setup past f.hart s op c.addr))
  outcome_of_operands s f a b first second =
      let op = op_of_fetched (Some f) in
      let c = exec op f.pc a b in
      ap (λ d. outcome_of op d (Some (first_look setup past f.hart s op d.addr)))
      (computed_of_operands s f a b first second)
      ∙ ap (λ addr. outcome_of op (checked setup.image op c) (Some (first_look setup past f.hart s op addr)))
      (checked-address setup.image op c)

  -- What the unit of an open job made of it, in the words of what was fetched.
  pub worked_of_operands : (k : ℕ) (x : OpenJob) (view : JobView) → (opened : IsOpenJob (picture setup past) k x)
      → IsSameJob x view
      → outcome_of_job view
      ≡ outcome_of (op_of_fetched (Some opened.instruction))
      (exec (op_of_fetched (Some opened.instruction)) opened.instruction.pc x.first x.second) None
  unfolding outcome_of_job
  worked_of_operands k x view opened same =
      let f = opened.instruction in
      sym (ap (λ op. outcome_of op (exec op f.pc x.first x.second) None) (sym opened.op ∙ same.op)
      ∙ ap (λ pc. outcome_of view.op (exec view.op pc x.first x.second) None) (opened.pc ∙ same.pc)
      ∙ ap (λ a. outcome_of view.op (exec view.op view.pc a x.second) None) same.first
      ∙ ap (λ b. outcome_of view.op (exec view.op view.pc view.first b) None) same.second)

  -- The core says the right thing that makes, of what a unit handed back of any c, the outcome with the fault of c and
  -- the first look at its address.
  pub looks_right : (k : ℕ) (x : OpenJob) (view : JobView) (o : Outcome)
      → (opened : IsOpenJob (picture setup past) k x) → IsSameJob x view
      → (let op = op_of_fetched (Some opened.instruction) in
      (c : Computed) → outcome_of_job view ≡ outcome_of op c None
      → o ≡ outcome_of op (checked setup.image op c)
      (Some (first_look setup past opened.instruction.hart x.seq op c.addr)))
      → o ≡ outcome_now setup past x.seq opened.instruction
  looks_right k x view o opened same says =
      let f = opened.instruction in
      says (exec (op_of_fetched (Some f)) f.pc x.first x.second) (worked_of_operands k x view opened same)
      ∙ sym (outcome_of_operands x.seq f x.first x.second opened.first opened.second)

-- A completed instruction said what is computed of its operands now, with some look.
pub record SaysWithLook (setup : Setup) (past : List Event) (s : ℕ) (f : Fetched) (o : Outcome) : Type 0 where
  pub look : ℕ
  pub outcome_is : o ≡ outcome_of (op_of_fetched (Some f)) (computed_at setup past s f) (Some look)

pub says_with_look : (setup : Setup) (past : List Event) → is_legal setup past → (s : ℕ) (f : Fetched) (o : Outcome)
    → fetching past s ≡ Some f → fate past s ≡ Completed → completion past s ≡ Some o → SaysWithLook setup past s f o
says_with_look setup past legal s f o at done said =
    let is_completed = completed-is setup past legal s (ap stage done) in
    let one : is_completed.fetch ≡ f = same_Some is_completed.fetch f (sym is_completed.fetched ∙ at) in
    let two : is_completed.outcome ≡ o = same_Some is_completed.outcome o (sym is_completed.completed ∙ said) in
    record {
      look = is_completed.look;
      outcome_is =
          sym two ∙ is_completed.outcome_is
          ∙ ap (λ g. outcome_of (op_of_fetched (Some g)) (computed_at setup past s g) (Some is_completed.look)) one;
    }
