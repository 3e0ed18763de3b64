use Rattle.std.proofs.Common.{rules}
use Rattle.load_store.proofs.look.look_by_bytes.Goals as goal

pub loop-index-preserved : goal.loop-index-preserved
loop-index-preserved c = search rules

pub returns : goal.returns
returns c = search rules
