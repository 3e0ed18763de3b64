use Rattle.std.proofs.Common.{◌≡◌, Ok, sym, arith}
use Rattle.event_text.specs.Reading.{event_within}
use Rattle.event_text.proofs.{LineLaws.event_within_only, Small.AreSmall}
use Rattle.event_text.proofs.trace.reading.read_first_event.Goals as goal

pub returns-in-Ok-clause-read : goal.returns-in-Ok-clause-read
returns-in-Ok-clause-read c =
    let small : AreSmall c.args.ranges = record {
      actor = omega (arith, c.well_formed);
      hart = omega (arith, c.well_formed);
      seq = omega (arith, c.well_formed);
      phys = omega (arith, c.well_formed);
    } in
    let read : event_within c.args.ranges c.in-Some.line.now ≡ Ok c.in-Ok.event = sym c.in-Ok.ensures in
    rw (← (event_within_only c.args.ranges small c.in-Ok.event c.in-Some.line.now read).1) c.in-Some.ensures.parts

pub returns-in-Ok-clause-in_range : goal.returns-in-Ok-clause-in_range
returns-in-Ok-clause-in_range c =
    let small : AreSmall c.args.ranges = record {
      actor = omega (arith, c.well_formed);
      hart = omega (arith, c.well_formed);
      seq = omega (arith, c.well_formed);
      phys = omega (arith, c.well_formed);
    } in
    let read : event_within c.args.ranges c.in-Some.line.now ≡ Ok c.in-Ok.event = sym c.in-Ok.ensures in
    (event_within_only c.args.ranges small c.in-Ok.event c.in-Some.line.now read).0
