use Rattle.std.proofs.Common.{◌∙◌, ap, sym, subst}
use Rattle.changed_memory.specs.Canonical.{AreCanonical}
use Rattle.changed_memory.specs.Places.{IsAt, IsPlace}
use Rattle.changed_memory.specs.Shared.{changed}
use Rattle.changed_memory.proofs.Canonical.{stay_before, stay_over}
use Rattle.changed_memory.proofs.Changing.{put_before, put_over}
use Rattle.changed_memory.proofs.changes.put_in.Goals as goal

pub returns-in-Ok : goal.returns-in-Ok
returns-in-Ok c =
    let items = c.args.changes.now.items in
    let new = c.args.change in
    let place = c.in-Ok.place in
    let found = subst (λ xs. IsAt xs new.addr place) c.as_slice.ensures.value c.in-Ok.ensures.found in
    record {
      bytes = λ addr before. put_over items new place found addr before;
      canonical = λ first changes are. stay_over first place new items found changes are;
    }

pub returns-in_ok-insert-in-Err : goal.returns-in_ok-insert-in-Err
returns-in_ok-insert-in-Err c =
    let items = c.args.changes.now.items in
    let new = c.args.change in
    let place = c.in-Err.place in
    let absent = subst (λ xs. IsPlace xs new.addr place) c.as_slice.ensures.value c.in-Err.ensures.absent in
    let is = c.in_ok-insert-in-Err.ensures.items in
    record {
      bytes = λ addr before. ap (λ xs. changed xs addr before) is ∙ put_before items new place absent addr before;
      canonical = λ first changes are.
          subst (AreCanonical first) (sym is) (stay_before first place new items absent changes are);
    }
