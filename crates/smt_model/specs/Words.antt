-- What the definitions take from the crates below, under one name.
pub use Rattle.elf_image.specs.Image.{ProgramImage, in_ram, touches_code, byte_in, word_now}
pub use Rattle.elf_image.specs.Image.{code_writable}
pub use Rattle.events.specs.Event.{actor_of, seq_of}
pub use Rattle.events.specs.declared.effect.Effect.{Effect}
pub use Rattle.events.specs.declared.effect.Next.{Next}
pub use Rattle.events.specs.declared.effect.Next.TheVariants.{Pc, Ended, Stopped}
pub use Rattle.events.specs.declared.effect.Outcome.{Outcome}
pub use Rattle.events.specs.declared.effect.Record.{Record}
pub use Rattle.events.specs.declared.effect.Written.{Written}
pub use Rattle.events.specs.declared.event.Event.{Event}
pub use Rattle.events.specs.declared.event.Event.TheVariants.{Fetch, Decode, Rename, Issue}
pub use Rattle.events.specs.declared.event.Event.TheVariants.{Complete, Drop, Retire, Refetch}
pub use Rattle.rv_instr.specs.Decode.{op_of_word}
pub use Rattle.rv_instr.specs.declared.instr.Instr.{Instr}
pub use Rattle.rv_instr.specs.declared.instr.Instr.TheVariants.{Load, Amo}
pub use Rattle.rv_instr.specs.declared.op.Op.{Op}
pub use Rattle.rv_instr.specs.declared.op.Op.TheVariants.{Known, NoWord}
pub use Rattle.rv_instr.specs.declared.op.UnitKind.{UnitKind}
