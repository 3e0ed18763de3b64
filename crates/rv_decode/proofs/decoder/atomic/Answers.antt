use Rattle.std.proofs.Common.{rules}
use Rattle.rv_instr.specs.{Decode.atomic_of}
use Rattle.rv_instr.specs.{Decode.load_reserved_of}
use Rattle.rv_instr.specs.{Decode.store_conditional_of}
use Rattle.rv_instr.specs.{Decode.amo_of}
use Rattle.rv_decode.proofs.decoder.atomic.Goals as goal

pub returns-in-2-clause-value : goal.returns-in-2-clause-value
unfolding atomic_of load_reserved_of store_conditional_of amo_of
returns-in-2-clause-value c = search rules

pub returns-in-2-clause-reading : goal.returns-in-2-clause-reading
unfolding atomic_of load_reserved_of store_conditional_of amo_of
returns-in-2-clause-reading c = search rules
