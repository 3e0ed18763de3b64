use Rattle.std.proofs.Common.{◌∙◌, sym}
use Rattle.core_lock.proofs.Same.{last_decides}
use Rattle.core_lock.proofs.held.agreement.has_counted.Goals as goal

pub returns-then-pass-tally : goal.returns-then-pass-tally
returns-then-pass-tally g c =
    let decides = last_decides c.args.pass.now.last c.args.tally.last in (
      λ equal. (c.if-pass-tally.true, decides.0 (sym c.eq.ensures ∙ equal)),
      λ both. c.eq.ensures ∙ decides.1 both.1,
    )
