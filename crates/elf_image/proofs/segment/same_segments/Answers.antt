use Rattle.std.proofs.Common.{refl, arith, [], ext_get_or}
use Rattle.elf_image.specs.Image.{ProgramSegment}
use Rattle.elf_image.proofs.segment.same_segments.Goals as goal

pub returns : goal.returns
returns c =
    let any : ProgramSegment = record { address = 0; bytes = []; flags = 0 } in
    (λ _. ext_get_or any _ _ c.if-some-others.false (λ i below. c.loop-i.invariant i any (omega arith)), λ _. refl)
