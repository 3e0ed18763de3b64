use Rattle.std.proofs.Common.{sym, ◌∙◌}
use Rattle.history_counts.proofs.Listing.{how_many-reverse}
use Rattle.history_counts.specs.Numbers.{is_kind}
use Rattle.history_counts.proofs.kinds.count_events.Goals as goal

pub returns : goal.returns
returns c = c.count_listed.ensures ∙ sym (how_many-reverse (is_kind c.args.kind) c.args.events.now)
