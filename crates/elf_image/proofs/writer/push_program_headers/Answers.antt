use Rattle.std.proofs.{Common.arith, lemmas.Grind.common_steps}
use Rattle.elf_image.proofs.Written.{program_headers_with, program_headers_none}
use Rattle.elf_image.proofs.writer.push_program_headers.Goals as goal

pub loop-segment-preserved : goal.loop-segment-preserved
loop-segment-preserved c =
    let more = program_headers_with c.args.segments.now c.loop-segment.segment-index c.loop-segment.offset
    c.segment-item.result c.loop-segment-test.true c.segment-item.is in
    grind (arith, common_steps, more)

pub returns : goal.returns
returns c =
    let none =
    program_headers_none c.args.segments.now c.loop-segment.segment-index c.loop-segment.offset (omega arith) in
    grind (arith, common_steps, none)
