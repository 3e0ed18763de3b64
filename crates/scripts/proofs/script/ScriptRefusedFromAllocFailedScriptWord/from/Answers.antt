use Rattle.std.proofs.Common.{rules}
use Rattle.scripts.proofs.script.ScriptRefusedFromAllocFailedScriptWord.from.Goals as goal

pub returns : goal.returns
returns c = search rules
