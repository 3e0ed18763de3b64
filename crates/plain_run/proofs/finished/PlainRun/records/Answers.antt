use Rattle.std.proofs.Common.{rules}
use Rattle.plain_run.proofs.finished.PlainRun.records.Goals as goal

pub returns : goal.returns
returns c = search rules
