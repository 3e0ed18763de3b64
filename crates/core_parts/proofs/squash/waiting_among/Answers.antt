use Rattle.std.proofs.Common.{◌∙◌, rules, tests}
use Rattle.std.proofs.lemmas.Iterator.{YieldsList-from_slice}
use Rattle.std.proofs.lemmas.Iterator.Consumers.{count_from_yields_List, YieldsList-from_filter}
use Rattle.std.proofs.lemmas.List.Sums.{length-filter}
use Rattle.retire_squash.specs.declared.active.Active.{Active}
use Rattle.core_parts.specs.Squash.{is_waiting}
use Rattle.core_parts.proofs.squash.waiting_among.Goals as goal

pub returns-clause-value : goal.returns-clause-value
returns-clause-value c = count_from_yields_List c.filter.result _ c.count.ensures.ran
    (YieldsList-from_filter _ (λ (x : Active). is_waiting x.stage) (YieldsList-from_slice c.args.active.now (cc))
    c.filter.ensures.closure (λ x r q k. search (rules, tests)))
    ∙ length-filter (λ (x : Active). is_waiting x.stage) c.args.active.now
