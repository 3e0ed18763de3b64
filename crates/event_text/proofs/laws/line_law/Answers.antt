use Rattle.event_text.specs.Ranges.{ranges_of}
use Rattle.event_text.proofs.{LineLaws.event_within-line_of, LineLaws.event_within_only, Small.small_of}
use Rattle.event_text.proofs.laws.line_law.Goals as goal

pub returns-clause-back : goal.returns-clause-back
returns-clause-back c = λ head. event_within-line_of (ranges_of head) (small_of head)

pub returns-clause-only : goal.returns-clause-only
returns-clause-only c = λ head. event_within_only (ranges_of head) (small_of head)
