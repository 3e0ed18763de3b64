use Rattle.std.proofs.Common.{arith}
use Rattle.stories.proofs.Keeping.{grown, shifted}
use Rattle.stories.proofs.recent.Recent.hear.Goals as goal

pub returns-then-self-lt-KEPT_ROWS : goal.returns-then-self-lt-KEPT_ROWS
returns-then-self-lt-KEPT_ROWS c = λ past has.
    grown c.args.row.now past c.copy_within.new.self c.args.self.now (omega arith) c.copy_within.ensures.after (omega arith)
    has

pub returns-else-self-lt-KEPT_ROWS : goal.returns-else-self-lt-KEPT_ROWS
returns-else-self-lt-KEPT_ROWS c = λ past has.
    shifted c.args.row.now past c.copy_within.new.self c.args.self.now (omega arith) c.copy_within.ensures.after
    (omega arith) has
