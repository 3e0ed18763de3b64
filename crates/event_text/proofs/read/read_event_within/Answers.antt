use Rattle.std.proofs.Common.{sym, ◌∙◌, ap}
use Rattle.event_text.specs.Reading.{event_fields, kind_named}
use Rattle.event_text.proofs.LineLaws.{line_read}
use Rattle.event_text.proofs.read.read_event_within.Goals as goal

pub returns-in-Ok : goal.returns-in-Ok
returns-in-Ok c =
    let ranges = c.args.ranges in
    let named = c.in-Some.ensures ∙ ap (kind_named ranges) c.split_field.ensures.first in
    let read = c.in-Ok.ensures ∙ ap (event_fields ranges c.in-Some.kind) c.split_field.ensures.others in
    sym (line_read ranges c.in-Some.kind c.args.line.now c.in-Ok.event (sym named) (sym read))
