use Rattle.litmus_images.proofs.Turns.{spelled_turn}
use Rattle.litmus_images.proofs.image.words_of.Goals as goal

pub loop-instruction-preserved : goal.loop-instruction-preserved
loop-instruction-preserved c = rw c.in_ok-push.ensures.items
    (spelled_turn c.loop-instruction.words.items c.args.code.now c.loop-instruction.instruction-index c.encode.result _
    c.loop-instruction-test.true c.loop-instruction.invariant c.encode.type_inv c.encode.ensures.spelled)
