use Rattle.std.proofs.Common.{rules}
use Rattle.rv_instr.specs.{Decode.decoded}
use Rattle.rv_instr.specs.{Decode.fence_of}
use Rattle.rv_instr.specs.{Decode.system_of}
use Rattle.rv_decode.proofs.decoder.decode.Goals as goal

pub returns-in-115-clause-value : goal.returns-in-115-clause-value
unfolding decoded fence_of system_of
returns-in-115-clause-value c = search rules

pub returns-in-115-clause-found : goal.returns-in-115-clause-found
unfolding decoded fence_of system_of
returns-in-115-clause-found c = search rules
