use Rattle.std.specs.Prelude.{codes}
use Rattle.text_fields.proofs.Appending.{appended_twice}
use Rattle.reports.proofs.json.push_status.Goals as goal

pub returns-in-Ended-clause-spelled : goal.returns-in-Ended-clause-spelled
returns-in-Ended-clause-spelled c =
    rw c.in-Ended.is
    (appended_twice c.args.text.now.bytes c.push_str-in-Ended.new.self.bytes c.push_decimal.new.text.bytes
    (codes ",\"status\":\"ended\",\"value\":") _ c.push_str-in-Ended.ensures.bytes c.push_decimal.ensures.spelled)

pub returns-in-Stopped-clause-spelled : goal.returns-in-Stopped-clause-spelled
returns-in-Stopped-clause-spelled c =
    rw c.in-Stopped.is
    (appended_twice c.args.text.now.bytes c.push_str-in-Stopped.new.self.bytes c.push_decimal-in-Stopped.new.text.bytes
    (codes ",\"status\":\"stopped\",\"cause\":") _ c.push_str-in-Stopped.ensures.bytes
    c.push_decimal-in-Stopped.ensures.spelled)
