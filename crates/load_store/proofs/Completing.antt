-- What a unit hands back says whether there is an access, and where; what the core says follows from it.
use Rattle.std.specs.Prelude.{◌≡◌, ℕ, Bool, true, false, ◌&&◌, Option, Some, None}
use Rattle.std.proofs.Common.{◌∙◌, refl, sym, ap, inl, inr, arith}
use Rattle.std.proofs.lemmas.Bool.{cases_Bool}
use Rattle.elf_image.specs.Image.{ProgramImage}
use Rattle.events.specs.declared.effect.Outcome.{Outcome}
use Rattle.events.specs.declared.effect.Next.TheVariants.{Stopped}
use Rattle.rv_instr.specs.declared.op.Op.{Op}
use Rattle.smt_model.specs.{Exec.Computed, Nexts.is_last, Faults.fault, Faults.checked, Bytes.read}
use Rattle.smt_model.specs.Kinds.{Kind, Computing, Loading, Storing, Reserving, Conditional, Atomic, kind_of}
use Rattle.smt_model.specs.Kinds.{is_loading, touches_memory, writes_register}
use Rattle.smt_model.specs.Outcomes.{given, last_outcome, outcome_by, outcome_of}
use Rattle.load_store.proofs.Checking.{checked_last, checked_faultless, checked_faulting, computing_faultless}

-- ---- What an outcome's address says of its instruction

kind_computes : (kind : Kind) (writes : Bool) (c : Computed) (look : Option ℕ)
    → (outcome_by kind writes c look).addr ≡ None
    → kind ≡ Computing
kind_computes Computing writes c look none = refl
kind_computes Loading writes c look none = absurd (grind arith)
kind_computes Storing writes c look none = absurd (grind arith)
kind_computes Reserving writes c look none = absurd (grind arith)
kind_computes Conditional writes c look none = absurd (grind arith)
kind_computes Atomic writes c look none = absurd (grind arith)

-- It has an access, at this address.
pub record IsAccess (kind : Kind) (c : Computed) (addr : ℕ) : Type 0 where
  pub touches : touches_memory kind ≡ true
  pub at : c.addr ≡ addr

kind_touches : (kind : Kind) (writes : Bool) (c : Computed) (look : Option ℕ) (addr : ℕ)
    → (outcome_by kind writes c look).addr ≡ Some addr
    → IsAccess kind c addr
kind_touches Computing writes c look addr some = absurd (grind arith)
kind_touches Loading writes c look addr some = record { touches = refl; at = grind arith }
kind_touches Storing writes c look addr some = record { touches = refl; at = grind arith }
kind_touches Reserving writes c look addr some = record { touches = refl; at = grind arith }
kind_touches Conditional writes c look addr some = record { touches = refl; at = grind arith }
kind_touches Atomic writes c look addr some = record { touches = refl; at = grind arith }

-- One that ends or stops its hart says no address.
pub last_none : (op : Op) (c : Computed) (look : Option ℕ) → is_last c.next ≡ true
    → (outcome_of op c look).addr ≡ None
last_none op c look last = rw last refl

pub going_says : (op : Op) (c : Computed) (look : Option ℕ) → is_last c.next ≡ false
    → outcome_of op c look ≡ outcome_by (kind_of op) (writes_register op) c look
going_says op c look going = rw going refl

pub computes : (op : Op) (c : Computed) (look : Option ℕ) (o : Outcome) → is_last c.next ≡ false → o.addr ≡ None
    → o ≡ outcome_of op c look
    → kind_of op ≡ Computing
computes op c look o going none is =
    kind_computes (kind_of op) (writes_register op) c look
    (ap (λ (o : Outcome). o.addr) (sym (is ∙ going_says op c look going)) ∙ none)

pub goes_on : (op : Op) (c : Computed) (look : Option ℕ) (o : Outcome) (addr : ℕ) → o.addr ≡ Some addr
    → o ≡ outcome_of op c look
    → is_last c.next ≡ false
goes_on op c look o addr some is =
    elim (cases_Bool (is_last c.next)) [
      | inl last ↦
          let none : None ≡ Some addr = sym (ap (λ (o : Outcome). o.addr) is ∙ last_none op c look last) ∙ some in
          absurd (grind arith)
      | inr going ↦ going
    ]

pub accesses : (op : Op) (c : Computed) (look : Option ℕ) (o : Outcome) (addr : ℕ) → o.addr ≡ Some addr
    → o ≡ outcome_of op c look
    → IsAccess (kind_of op) c addr
accesses op c look o addr some is =
    let going = goes_on op c look o addr some is in
    kind_touches (kind_of op) (writes_register op) c look addr
    (ap (λ (o : Outcome). o.addr) (sym (is ∙ going_says op c look going)) ∙ some)

-- ---- What the core says

module _ (image : ProgramImage) (op : Op) (c : Computed) (o : Outcome) (is : o ≡ outcome_of op c None) where
  computing_same : (look : Option ℕ) → is_last c.next ≡ false → kind_of op ≡ Computing
      → o ≡ outcome_of op (checked image op c) look
  computing_same look going kind =
      rw (is, checked_faultless image op c going (computing_faultless image op c.addr kind), going, kind) refl

  -- Without an access it stays as it is.
  pub stays : o.addr ≡ None → (look : Option ℕ) → o ≡ outcome_of op (checked image op c) look
  stays none look =
      elim (cases_Bool (is_last c.next)) [
        | inl last ↦ rw (is, checked_last image op c last, last) refl
        | inr going ↦ computing_same look going (computes op c None o going none is)
      ]

  -- An access that faults stops.
  pub faults : (addr cause : ℕ) → o.addr ≡ Some addr → fault image op addr ≡ Some cause → (look : Option ℕ)
      → last_outcome (Stopped cause) ≡ outcome_of op (checked image op c) look
  faults addr cause some faulting look =
      let going = goes_on op c None o addr some is in
      let at = (accesses op c None o addr some is).at in
      rw (checked_faulting image op c cause going (ap (fault image op) at ∙ faulting)) refl

-- A load that writes a register says its first look, and all others what they said.
with_look : (kind : Kind) (writes : Bool) (c : Computed) (look : ℕ) → touches_memory kind ≡ true
    → record (outcome_by kind writes c None) { value = given (is_loading kind && writes) look }
    ≡ outcome_by kind writes c (Some look)
with_look Computing writes c look touches = absurd (grind arith)
with_look Loading true c look touches = refl
with_look Loading false c look touches = refl
with_look Storing writes c look touches = refl
with_look Reserving writes c look touches = refl
with_look Conditional writes c look touches = refl
with_look Atomic writes c look touches = refl

pub looks : (image : ProgramImage) (op : Op) (c : Computed) (o : Outcome) (addr : ℕ) (bytes : ℕ → ℕ)
    → o ≡ outcome_of op c None → o.addr ≡ Some addr → fault image op addr ≡ None
    → record o { value = given (is_loading (kind_of op) && writes_register op) (read op bytes addr) }
    ≡ outcome_of op (checked image op c) (Some (read op bytes c.addr))
looks image op c o addr bytes is some none =
    let going = goes_on op c None o addr some is in
    let access = accesses op c None o addr some is in
    let look = read op bytes addr in
    let value = given (is_loading (kind_of op) && writes_register op) look in
    ap (λ (o : Outcome). record o { value = value }) (is ∙ going_says op c None going)
    ∙ with_look (kind_of op) (writes_register op) c look access.touches
    ∙ sym (going_says op c (Some look) going)
    ∙ ap (λ (d : Computed). outcome_of op d (Some look))
    (sym (checked_faultless image op c going (ap (fault image op) access.at ∙ none)))
    ∙ ap (λ a. outcome_of op (checked image op c) (Some (read op bytes a))) (sym access.at)
