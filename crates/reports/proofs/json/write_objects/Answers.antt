use Rattle.reports.specs.Json.{hart_object}
use Rattle.text_fields.proofs.Appending.{each_step}
use Rattle.reports.proofs.json.write_objects.Goals as goal

pub loop-hart-preserved : goal.loop-hart-preserved
loop-hart-preserved g c =
    each_step hart_object _ _ _ _ _ _ c.loop-hart-test.true c.loop-hart.invariant c.in_ok-write_object.ensures
