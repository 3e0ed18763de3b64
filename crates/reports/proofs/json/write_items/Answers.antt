use Rattle.reports.specs.Json.{idle_item}
use Rattle.text_fields.proofs.Appending.{each_step}
use Rattle.reports.proofs.json.write_items.Goals as goal

pub loop-actor-preserved : goal.loop-actor-preserved
loop-actor-preserved g c =
    each_step idle_item _ _ _ _ _ _ c.loop-actor-test.true c.loop-actor.invariant c.in_ok-write_item.ensures
