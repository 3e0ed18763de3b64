-- What a step shows to other harts. (This project's own choice.)
use Rattle.std.specs.Prelude.{ℕ, Option, Some, None, option_map}
use Rattle.rv_word.specs.declared.amo_kind.AmoKind.{AmoKind}
use Rattle.rv_instr.specs.{declared.instr.StoreOp.StoreOp, declared.op.Op.TheVariants.Illegal}
use Rattle.rv_instr.specs.declared.instr.Instr.TheVariants as instr
use Rattle.smt_model.specs.Words.{Op, Known, NoWord, Instr, Next, Effect, Written}
use Rattle.events.specs.declared.effect.Next.TheVariants as next
use Rattle.smt_model.specs.{Setup.Setup, Bytes.number_at, Kinds.access_size}
use Rattle.smt_model.specs.Plain.{Plain, op_at_pc, computes, effect_at}
use Rattle.stories.specs.declared.deed.Deed.{Deed}
use Rattle.stories.specs.declared.deed.Deed.TheVariants as deed

-- What was written shows its address and its number.

abbrev pub stored : StoreOp → Option Written → Option Deed
stored op None = None
stored op (Some w) = Some (deed.Stored op w.addr w.datum)

abbrev pub conditional : ℕ → Option Written → Deed
conditional addr None = deed.Failed addr
conditional addr (Some w) = deed.Conditional w.addr w.datum

abbrev pub atomic : AmoKind → ℕ → Option Written → Option Deed
atomic kind old None = None
atomic kind old (Some w) = Some (deed.Atomic kind w.addr old w.datum)

-- What an instruction shows that goes on: `number` is what memory has where it reads, before its effect.
abbrev pub deed_of_instr : Instr → ℕ → ℕ → Effect → Option Deed
deed_of_instr (instr.Load op _ _ _) addr number x = Some (deed.Loaded op addr number)
deed_of_instr (instr.LoadReserved _ _ _) addr number x = Some (deed.Reserved addr number)
deed_of_instr (instr.Store op _ _ _) addr number x = stored op x.write
deed_of_instr (instr.StoreConditional _ _ _ _) addr number x = Some (conditional addr x.write)
deed_of_instr (instr.Amo kind _ _ _ _) addr number x = atomic kind number x.write
deed_of_instr _ addr number x = option_map deed.Out x.out

unfoldable pub deed_of_op : Op → ℕ → ℕ → Effect → Option Deed
deed_of_op (Known i) addr number x = deed_of_instr i addr number x
deed_of_op Illegal addr number x = option_map deed.Out x.out
deed_of_op NoWord addr number x = option_map deed.Out x.out

-- What ends or stops its hart shows no more than that.
abbrev pub deed_before : Next → Option Deed → Option Deed
deed_before (next.Pc _) shown = shown
deed_before (next.Ended number) shown = Some (deed.Ended number)
deed_before (next.Stopped cause) shown = Some (deed.Stopped cause)

abbrev pub deed_by : Op → ℕ → ℕ → Effect → Option Deed
deed_by op addr number x = deed_before x.next (deed_of_op op addr number x)

-- What hart h's step shows that is made in this state: what memory has is read before the step.
abbrev pub deed_of : Setup → Plain → ℕ → Option Deed
deed_of setup s h =
    let op = op_at_pc setup s h in
    let addr = (computes setup s h).addr in
    deed_by op addr (number_at s.bytes addr (access_size op)) (effect_at setup s h)
