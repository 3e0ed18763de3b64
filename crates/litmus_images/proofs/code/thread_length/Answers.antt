use Rattle.std.proofs.Common.{arith}
use Rattle.litmus_images.proofs.Lengths.{block_length}
use Rattle.litmus_images.proofs.code.thread_length.Goals as goal

pub returns-clause-value : goal.returns-clause-value
returns-clause-value c = grind (arith, block_length c.args.thread.now)
