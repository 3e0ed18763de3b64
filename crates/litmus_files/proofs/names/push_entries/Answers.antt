use Rattle.std.proofs.{Common.arith, lemmas.Grind.common_steps}
use Rattle.litmus_files.proofs.Entries.{entries_with, entries_none}
use Rattle.litmus_files.proofs.names.push_entries.Goals as goal

pub loop-location-preserved : goal.loop-location-preserved
loop-location-preserved c =
    let more = entries_with c.args.locations.now c.loop-location.location-index c.loop-location.begin
    c.location-item.result c.loop-location-test.true c.location-item.is in
    grind (arith, common_steps, more)

pub returns : goal.returns
returns c =
    let none = entries_none c.args.locations.now c.loop-location.location-index c.loop-location.begin (omega arith) in
    grind (arith, common_steps, none)
