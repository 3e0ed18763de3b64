use Rattle.std.proofs.Common.{◌<◌, length, arith}
use Rattle.changed_memory.proofs.Changing.{clear_more}
use Rattle.changed_memory.proofs.Canonical.{lower_more}
use Rattle.changed_memory.proofs.changes.find.Goals as goal

pub loop-place-preserved : goal.loop-place-preserved
loop-place-preserved c =
    let xs = c.args.changes.now in
    let k = c.loop-place.place in
    let inside : k < length xs = omega arith in
    record {
      clear = clear_more xs c.args.addr k _ inside c.loop-place.invariant.clear c.if-change-addr.false;
      lower = lower_more xs c.args.addr k _ inside c.loop-place.invariant.lower c.if-change-addr.false
          c.if-change-addr-2.false;
    }
