-- What a story says of the records of its run.
use Rattle.std.specs.Prelude.{◌≡◌, ℕ, List, Option, Some, None, IfSome}
use Rattle.rv_instr.specs.{declared.instr.LoadOp.LoadOp}
use Rattle.smt_model.specs.Words.{Next, Effect, Written}
use Rattle.events.specs.declared.effect.Next.TheVariants as next
use Rattle.smt_model.specs.{Setup.Setup, Kinds.store_size, Bytes.write_of, Bytes.load_value}
use Rattle.smt_model.specs.Plain.{Plain, effect_at}
use Rattle.stories.specs.Deeds.{deed_of}
use Rattle.stories.specs.declared.deed.Deed.{Deed}
use Rattle.stories.specs.declared.deed.Deed.TheVariants as deed

-- What a deed says was written to memory.
abbrev pub write_told : Option Deed → Option Written
write_told (Some (deed.Stored op addr number)) = Some (write_of addr (store_size op) number)
write_told (Some (deed.Conditional addr number)) = Some (write_of addr 4 number)
write_told (Some (deed.Atomic kind addr old new)) = Some (write_of addr 4 new)
write_told _ = None

-- What it says was put out.
abbrev pub out_told : Option Deed → Option ℕ
out_told (Some (deed.Out byte)) = Some byte
out_told _ = None

-- What it says its hart's register has then, where it has read memory.
abbrev pub value_told : Option Deed → Option ℕ
value_told (Some (deed.Loaded op addr number)) = Some (load_value op number)
value_told (Some (deed.Reserved addr number)) = Some number
value_told (Some (deed.Atomic kind addr old new)) = Some old
value_told (Some (deed.Conditional addr number)) = Some 0
value_told (Some (deed.Failed addr)) = Some 1
value_told _ = None

-- What it says comes next, where that is the last of its hart.
abbrev pub last_told : Option Deed → Option Next
last_told (Some (deed.Ended number)) = Some (next.Ended number)
last_told (Some (deed.Stopped cause)) = Some (next.Stopped cause)
last_told _ = None

abbrev pub last_of : Next → Option Next
last_of (next.Pc pc) = None
last_of (next.Ended number) = Some (next.Ended number)
last_of (next.Stopped cause) = Some (next.Stopped cause)

-- What is told of a step is what its record says: what it has written, with address, size and number; what it has put
-- out; how it ends its hart; and a number told as read is that of its register, where it has one.
pub record IsAsRecorded (shown : Option Deed) (x : Effect) : Type 0 where
  pub write : write_told shown ≡ x.write
  pub out : out_told shown ≡ x.out
  pub last : last_told shown ≡ last_of x.next
  pub value : IfSome (value_told shown) (λ told. IfSome x.value (λ value. value ≡ told))

abbrev pub TellsRecords : Type 0
TellsRecords = (setup : Setup) (s : Plain) (h : ℕ) → IsAsRecorded (deed_of setup s h) (effect_at setup s h)
