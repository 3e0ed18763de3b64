-- What an outcome says of the access suffices to know what the instruction does as it retires.
use Rattle.std.specs.Prelude.{◌≡◌, ◌≢◌, ℕ, Bool, true, false, Option, Some, None, unwrap_or}
use Rattle.std.proofs.Common.{◌∙◌, refl, sym, ap, inl, inr, arith}
use Rattle.std.proofs.lemmas.Bool.{cases_Bool}
use Rattle.elf_image.specs.Image.{ProgramImage}
use Rattle.events.specs.declared.effect.{Next.Next, Outcome.Outcome}
use Rattle.rv_instr.specs.declared.op.Op.{Op}
use Rattle.smt_model.specs.{Exec.Computed, Exec.just_next, Nexts.is_last, Faults.fault, Faults.checked}
use Rattle.smt_model.specs.{Outcomes.outcome_by, Outcomes.outcome_of}
use Rattle.smt_model.specs.Effects.{last_effect, effect_by, effect_of}
use Rattle.smt_model.specs.Kinds.{Kind, Computing, Loading, Storing, Reserving, Conditional, Atomic, kind_of}
use Rattle.smt_model.specs.Kinds.{touches_memory, writes_register}
use Rattle.load_store.proofs.Checking.{checked_last, checked_faultless, checked_faulting}
use Rattle.load_store.proofs.Completing.{IsAccess, computes, goes_on, accesses, going_says}

true_false : true ≢ false
true_false same = grind arith

-- ---- Without an access it does what it said

pub keeps : (op : Op) (c : Computed) (look : Option ℕ) (o : Outcome) (now : ℕ) (held : Bool)
    → o ≡ outcome_of op c look → o.addr ≡ None
    → record (last_effect o.next) { value = o.value; out = o.out } ≡ effect_of op c now held
keeps op c look o now held is none =
    elim (cases_Bool (is_last c.next)) [
      | inl last ↦ rw (is, last) refl
      | inr going ↦ let kind = computes op c look o going none is in rw (is, going, kind) refl
    ]

-- ---- With an access it does what its kind does, at the address that it said and with the number that it said

abbrev pub access_of : Next → ℕ → ℕ → Computed
access_of next addr datum = record (just_next next) { addr = addr; datum = datum }

next_said : (kind : Kind) (writes : Bool) (c : Computed) (look : Option ℕ)
    → (outcome_by kind writes c look).next ≡ c.next
next_said Computing writes c look = refl
next_said Loading writes c look = refl
next_said Storing writes c look = refl
next_said Reserving writes c look = refl
next_said Conditional writes c look = refl
next_said Atomic writes c look = refl

going_does : (op : Op) (c : Computed) (now : ℕ) (held : Bool) → is_last c.next ≡ false
    → effect_of op c now held ≡ effect_by (kind_of op) op (writes_register op) c now held
going_does op c now held going = rw going refl

kind_does : (kind : Kind) (op : Op) (writes : Bool) (c : Computed) (look : Option ℕ) (now : ℕ) (held : Bool)
    → touches_memory kind ≡ true
    → let o = outcome_by kind writes c look in
    effect_by kind op writes (access_of o.next c.addr (unwrap_or o.datum 0)) now held
    ≡ effect_by kind op writes c now held
kind_does Computing op writes c look now held touches = absurd (grind arith)
kind_does Loading op writes c look now held touches = refl
kind_does Storing op writes c look now held touches = refl
kind_does Reserving op writes c look now held touches = refl
kind_does Conditional op writes c look now held touches = refl
kind_does Atomic op writes c look now held touches = refl

pub does : (op : Op) (c : Computed) (look : Option ℕ) (o : Outcome) (addr now : ℕ) (held : Bool)
    → o ≡ outcome_of op c look → o.addr ≡ Some addr
    → effect_of op (access_of o.next addr (unwrap_or o.datum 0)) now held ≡ effect_of op c now held
does op c look o addr now held is some =
    let going = goes_on op c look o addr some is in
    let access = accesses op c look o addr some is in
    let kind = kind_of op in
    let writes = writes_register op in
    let said = is ∙ going_says op c look going in
    let goes : is_last o.next ≡ false =
    ap (λ (o : Outcome). is_last o.next) said ∙ ap is_last (next_said kind writes c look) ∙ going in
    going_does op (access_of o.next addr (unwrap_or o.datum 0)) now held goes
    ∙ ap (λ a. effect_by kind op writes (access_of o.next a (unwrap_or o.datum 0)) now held) (sym access.at)
    ∙ ap (λ (o : Outcome). effect_by kind op writes (access_of o.next c.addr (unwrap_or o.datum 0)) now held) said
    ∙ kind_does kind op writes c look now held access.touches
    ∙ sym (going_does op c now held going)

-- ---- An address that was said is one of an access that doesn't fault

module _ (image : ProgramImage) (op : Op) (c : Computed) (look : Option ℕ) (o : Outcome) (addr : ℕ)
    (is : o ≡ outcome_of op (checked image op c) look) (some : o.addr ≡ Some addr) where
  going_checked : is_last (checked image op c).next ≡ false
  going_checked = goes_on op (checked image op c) look o addr some is

  going : is_last c.next ≡ false
  going = elim (cases_Bool (is_last c.next)) [
    | inl last ↦
        let stops : is_last (checked image op c).next ≡ true =
        ap (λ (d : Computed). is_last d.next) (checked_last image op c last) ∙ last in
        absurd (true_false (sym stops ∙ going_checked))
    | inr goes ↦ goes
  ]

  faultless_by : (found : Option ℕ) → fault image op c.addr ≡ found → found ≡ None
  faultless_by None faults = refl
  faultless_by (Some cause) faults =
      let stops : is_last (checked image op c).next ≡ true =
      ap (λ (d : Computed). is_last d.next) (checked_faulting image op c cause going faults) in
      absurd (true_false (sym stops ∙ going_checked))

  faultless : fault image op c.addr ≡ None
  faultless = faultless_by (fault image op c.addr) refl

  same : checked image op c ≡ c
  same = checked_faultless image op c going faultless

  access : IsAccess (kind_of op) (checked image op c) addr
  access = accesses op (checked image op c) look o addr some is

  pub at : c.addr ≡ addr
  at = ap (λ (d : Computed). d.addr) (sym same) ∙ access.at

  pub no_fault : fault image op addr ≡ None
  no_fault = ap (fault image op) (sym at) ∙ faultless

  pub does_there : (now : ℕ → ℕ) (held : ℕ → Bool)
      → effect_of op (access_of o.next addr (unwrap_or o.datum 0)) (now addr) (held addr)
      ≡ effect_of op (checked image op c) (now c.addr) (held c.addr)
  does_there now held =
      does op (checked image op c) look o addr (now addr) (held addr) is some
      ∙ ap (λ a. effect_of op (checked image op c) (now a) (held a)) (sym at)
