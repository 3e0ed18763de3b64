-- What is said of a completion and of a retirement, where memory and the stores are as a history has them, is what the
-- rules want.
use Rattle.std.specs.Prelude.{◌≡◌, Some}
use Rattle.std.proofs.Common.{◌∙◌, refl, sym, ap, inl, inr}
use Rattle.std.proofs.lemmas.Bool.{cases_Bool}
use Rattle.elf_image.specs.Image.{ProgramImage}
use Rattle.rv_instr.specs.declared.op.Op.{Op}
use Rattle.smt_model.specs.{Exec.Computed, Nexts.is_last, Faults.checked, Bytes.read, Outcomes.outcome_of}
use Rattle.smt_model.specs.{Effects.effect_of, Reservations.holds_word, Memory.byte_at, Memory.reserved}
use Rattle.smt_model.specs.{Fates.op_of_fetched, Looks.first_look}
use Rattle.shared_memory.specs.Contents.{byte_of, reserved_of}
use Rattle.load_store.specs.Looks.{seen}
use Rattle.load_store.specs.Stores.{stores_at}
use Rattle.load_store.specs.Histories.{computed_in, SaysOutcomes, SaysEffects}
use Rattle.load_store.proofs.Forwarding.{read_same, sees_first_look}

-- A fault changes no address.
same_address : (image : ProgramImage) (op : Op) (c : Computed) → (checked image op c).addr ≡ c.addr
unfolding checked
same_address image op c = elim (cases_Bool (is_last c.next)) [
  | inl last ↦ rw last refl
  | inr going ↦ rw going refl
]

pub says_outcomes : SaysOutcomes
says_outcomes setup past m s f has =
    let op = op_of_fetched (Some f) in
    let c = computed_in setup past s f in
    let h = f.hart in
    ap (λ image. outcome_of op (checked image op c) (Some (read op (seen s (stores_at past h) m) c.addr))) has.image
    ∙ ap (λ look. outcome_of op (checked setup.image op c) (Some look))
    (sees_first_look setup past m h s op c.addr has
    ∙ ap (first_look setup past h s op) (sym (same_address setup.image op c)))

pub says_effects : SaysEffects
says_effects setup past m s f has =
    let op = op_of_fetched (Some f) in
    let c = computed_in setup past s f in
    let d = checked setup.image op c in
    let h = f.hart in
    ap (λ image. effect_of op (checked image op c) (read op (byte_of m) c.addr) (holds_word (reserved_of m h) c.addr))
    has.image
    ∙ ap (λ now. effect_of op d now (holds_word (reserved_of m h) c.addr))
    (read_same (byte_of m) (byte_at setup past) has.bytes op c.addr)
    ∙ ap (λ held. effect_of op d (read op (byte_at setup past) c.addr) (holds_word held c.addr)) has.reserved
    ∙ ap (λ a. effect_of op d (read op (byte_at setup past) a) (holds_word (reserved past h) a))
    (sym (same_address setup.image op c))
