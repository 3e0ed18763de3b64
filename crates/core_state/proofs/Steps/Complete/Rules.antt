-- The event of a job that is handed back may come next, and what it changes.
use Rattle.std.specs.Prelude.{◌≡◌, ℕ, ◌≤◌, ◌==◌, true, not, List, ◌∷◌, Some, None, is_some}
use Rattle.std.proofs.Common.{◌∙◌, refl, sym, ap, subst, inl, inr, arith}
use Rattle.std.proofs.{lemmas.Bool.cases_Bool, lemmas.Bool.Decides.nat_tests, lemmas.Option.none-some}
use Rattle.std.proofs.{lemmas.Option.same_Some}
use Rattle.numbers.specs.Sizes.{most_registers}
use Rattle.events.specs.{declared.effect.Next.Next, declared.effect.Next.TheVariants.Pc}
use Rattle.events.specs.{declared.effect.Next.TheVariants.Ended, declared.effect.Next.TheVariants.Stopped}
use Rattle.events.specs.{declared.effect.Outcome.Outcome, declared.event.Event.Event}
use Rattle.events.specs.{declared.event.Event.TheVariants.Complete, declared.event.Event.TheVariants.Drop}
use Rattle.retire_squash.specs.declared.active.Active.{Active}
use Rattle.smt_model.specs.{Basics.holds_of, Setup.Setup, Setup.registers_of}
use Rattle.smt_model.specs.{Fetching.fetch_pc, Nexts.pc_after, Nexts.redirect_pc, Picture.picture}
use Rattle.smt_model.specs.{Jobs.job, Comparisons.same_next, Comparisons.same_outcome}
use Rattle.smt_model.specs.{Steps.IsMisprediction}
use Rattle.smt_model.specs.Fates.{fetching, fate, is, is_of, mispredicts, op_of_fetched, Squashed}
use Rattle.smt_model.specs.Rules.{outcome_now, refused, is_legal}
use Rattle.smt_model.proofs.{Allowed.complete_allows, Allowed.drop_allows, Fates.Moves.same_number-self}
use Rattle.smt_laws.proofs.{Steps.Complete.steps-Complete, Steps.Misprediction.steps-Misprediction}
use Rattle.smt_model.proofs.Fates.Sound.{sound}
use Rattle.core_parts.specs.{Agree.IsActive, Agree.IsOpenJob}
use Rattle.core_steps.specs.{Complete.IsFinish}
use Rattle.core_parts.specs.{declared.slot.OpenJob.OpenJob}
use Rattle.core_parts.proofs.Agreement.Harts.{stage_flies}

-- ---- The outcome

same_next-self : (next : Next) → same_next next next ≡ true
same_next-self (Pc pc) = grind (arith, nat_tests)
same_next-self (Ended status) = grind (arith, nat_tests)
same_next-self (Stopped cause) = grind (arith, nat_tests)

same_outcome-self : (o : Outcome) → same_outcome o o ≡ true
same_outcome-self o =
    rw (
      same_number-self o.value,
      same_next-self o.next,
      same_number-self o.addr,
      same_number-self o.datum,
      same_number-self o.out,
    ) refl

module _ (setup : Setup) (past : List Event) where
  -- ---- It may come next, where it says what the rules compute
  pub may_complete : is_legal setup past
      → (k : ℕ) (x : OpenJob) (h : ℕ) (a : Active) (o : Outcome)
      → (opened : IsOpenJob (picture setup past) k x) → o ≡ outcome_now setup past x.seq opened.instruction
      → IsActive (picture setup past) h a → a.seq ≡ x.seq
      → refused setup past (Complete k a.seq o) ≡ None
  may_complete legal k x h a o opened says active number =
      let flies = stage_flies (picture setup past) a.seq a.stage active.stage in
      let at : fetching past a.seq ≡ Some opened.instruction = ap (fetching past) number ∙ opened.fetched in
      let lent : job past k ≡ Some a.seq = opened.lent ∙ ap Some (sym number) in
      let now : outcome_now setup past a.seq opened.instruction ≡ o =
      ap (λ s. outcome_now setup past s opened.instruction) number ∙ sym says in
      complete_allows setup past k a.seq o (record {
        actor_is = (sound setup past legal).actors k x.seq opened.lent;
        lent = rw lent (same_number-self (Some a.seq));
        spared = let spared : not (is (fate past a.seq) Squashed) ≡ true = grind (arith, nat_tests) in spared;
        outcome_is =
            ap (holds_of (λ f. same_outcome o (outcome_now setup past a.seq f))) at ∙ (rw now (same_outcome-self o));
      })

  pub may_drop : is_legal setup past → (k : ℕ) (x : OpenJob) → IsOpenJob (picture setup past) k x
      → is (fate past x.seq) Squashed ≡ true
      → refused setup past (Drop k x.seq) ≡ None
  may_drop legal k x opened squashed = drop_allows setup past k x.seq (record {
    actor_is = (sound setup past legal).actors k x.seq opened.lent;
    lent = rw opened.lent (same_number-self (Some x.seq));
    fated = squashed;
  })

-- ---- What it changes

mispredicted_next : (next : Next) (predicted pc before : ℕ) → redirect_pc next predicted ≡ Some pc
    → pc_after next before ≡ pc
mispredicted_next (Pc at) predicted pc before some = elim (cases_Bool (at == predicted)) [
  | inl t ↦ absurd (none-some pc (rw t at some))
  | inr f ↦ same_Some at pc (rw f at some)
]
mispredicted_next (Ended status) predicted pc before some = absurd (none-some pc some)
mispredicted_next (Stopped cause) predicted pc before some = absurd (none-some pc some)

mispredicts_is : (setup : Setup) (past : List Event) (h : ℕ) (a : Active) (next : Next)
    → IsActive (picture setup past) h a
    → mispredicts past a.seq next ≡ is_some (redirect_pc next a.predicted)
unfolding mispredicts
mispredicts_is setup past h a next active = ap (holds_of (λ f. is_some (redirect_pc next f.predicted))) active.fetched

pub finishes : (setup : Setup) (past : List Event) → is_legal setup past → registers_of setup ≤ most_registers
    → (h k : ℕ) (a : Active) (o : Outcome)
    → IsActive (picture setup past) h a → refused setup past (Complete k a.seq o) ≡ None
    → IsFinish (picture setup past) (picture setup (Complete k a.seq o ∷ past)) h k a o
finishes setup past legal fits h k a o active ok =
    let of_hart : is_of past h a.seq ≡ true =
    ap (holds_of (λ f. f.hart == h)) active.fetched ∙ (grind (arith, nat_tests)) in
    record {
      phys = active.phys;
      op = active.op ∙ sym (ap op_of_fetched active.fetched);
      straight = λ none.
          steps-Complete setup past legal k a.seq o ok
          (mispredicts_is setup past h a o.next active ∙ ap is_some none) h of_hart;
      mispredicts = λ pc some.
          let goes = mispredicted_next o.next a.predicted pc (fetch_pc setup past h) some in
          subst (λ x. IsMisprediction (picture setup past) (picture setup (Complete k a.seq o ∷ past)) h a.seq k o x)
          goes
          (steps-Misprediction setup past legal k a.seq o ok fits
          (mispredicts_is setup past h a o.next active ∙ ap is_some some) h of_hart);
    }
