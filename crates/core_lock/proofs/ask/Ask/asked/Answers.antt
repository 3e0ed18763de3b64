use Rattle.std.proofs.Common.{rules}
use Rattle.core_lock.proofs.ask.Ask.asked.Goals as goal

pub returns-in-Issue : goal.returns-in-Issue
returns-in-Issue c = search rules
