use Rattle.std.proofs.Common.{rules}
use Rattle.rv_instr.specs.{Decode.op_of_word}
use Rattle.rv_instr.specs.{Decode.op_of_instr}
use Rattle.rv_decode.proofs.decoder.decode_op.Goals as goal

pub returns-in-None-clause-value : goal.returns-in-None-clause-value
unfolding op_of_word op_of_instr
returns-in-None-clause-value c = search rules
