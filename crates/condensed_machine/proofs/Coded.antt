-- Code that may not be written stays what the image has, in all that the harts share.
use Rattle.std.proofs.Common.{◌≡◌, ℕ, Bool, true, false, List, [], Option, Some, None, IfSome}
use Rattle.std.proofs.Common.{refl, sym, ap, subst, ◌∙◌}
use Rattle.std.proofs.lemmas.{Option.slice_get-get_or}
use Rattle.elf_image.specs.Image.{ProgramImage, byte_in, in_code, code_writable}
use Rattle.elf_image.proofs.Words.{word_now-kept, word_now-same}
use Rattle.events.specs.declared.effect.Written.{Written}
use Rattle.smt_model.specs.{Setup.Setup, Plain.Plain, Bytes.byte_after}
use Rattle.smt_laws.proofs.FixedCode.{code_spared}
use Rattle.shared_memory.specs.Contents.{CanWrite}
use Rattle.outcome_laws.specs.Paths.{HasItsCode}
use Rattle.changed_memory.specs.Shared.{Shared, byte_at, changed}
use Rattle.condensed_machine.specs.{Machine.Machine, Machine.HasCode, Machine.HaveCode}
use Rattle.condensed_machine.specs.Executing.{SharedAgrees, SharedAfter}
use Rattle.condensed_machine.specs.{declared.executed.Executed.Executed, declared.state.State.State}
use Rattle.condensed_machine.specs.Decoded.{Knows, decoded, no_shared, shared_at}

-- ---- What may be written spares code that may not

spared : (image : ProgramImage) → code_writable image ≡ false → (write : Option Written)
    → IfSome write (CanWrite image) → (a before : ℕ) → in_code image a ≡ true → byte_after write a before ≡ before
spared image fixed None can a before there = refl
spared image fixed (Some w) can a before there = code_spared image fixed w can.no_fault a before there

-- So it stays behind an instruction.
pub code_after : (image : ProgramImage) (h : ℕ) (e : Executed) (kept : Bool) (old new : Shared)
    → IfSome e.effect.write (CanWrite image) → SharedAfter image h e kept old new → HasCode image old
    → HasCode image new
code_after image h e kept old new can after holds fixed pc =
    word_now-kept image (byte_at image new) (byte_at image old)
    (λ a there. after.bytes a ∙ spared image fixed e.effect.write can a (byte_at image old a) there) pc
    ∙ holds fixed pc

-- ---- At the start, and in a state

pub code_at_start : (image : ProgramImage) (shared : Shared) → shared.changes ≡ [] → HasCode image shared
code_at_start image shared none fixed pc =
    word_now-same image (byte_at image shared) (byte_in image) (λ a. ap (λ cs. changed cs a (byte_in image a)) none) pc

pub code_in : (setup : Setup) (image : ProgramImage) (s : Plain) (shared : Shared) → setup.image ≡ image
    → SharedAgrees image s shared → HasCode image shared → HasItsCode setup s
code_in setup image s shared same agrees holds fixed pc =
    word_now-same setup.image s.bytes (byte_at setup.image shared)
    (λ a. sym ((subst (λ i. SharedAgrees i s shared) (sym same) agrees).bytes a)) pc
    ∙ subst (λ i. HasCode i shared) (sym same) holds fixed pc

-- ---- In a table

-- What the harts of a state share.
pub code_at : (m : Machine) (s : State) → HaveCode m.program.image m.shared_states → Knows m s
    → HasCode m.program.image (decoded m s).shared
code_at m s codes knows =
    codes s.shared (shared_at m.shared_states s.shared)
    (slice_get-get_or m.shared_states s.shared no_shared knows.shared)

pub codes_kept : (image other : ProgramImage) (old new : List Shared) → other ≡ image
    → (HaveCode other old → HaveCode other new) → HaveCode image old → HaveCode image new
codes_kept image other old new same keeps = subst (λ i. HaveCode i old → HaveCode i new) same keeps
