use Rattle.std.proofs.Common.{◌+◌, sym, subst, arith}
use Rattle.arrayvec.specs.ArrayVec.{ArrayVec}
use Rattle.issue_queue.specs.declared.entry.Entry.{Entry}
use Rattle.issue_queue.proofs.Finding.{IsPartly, partly_none, partly_some, partly_whole, partly_nothing}
use Rattle.issue_queue.proofs.slab_queue.rising_of.Goals.{in-Some, in_default}
use Rattle.issue_queue.proofs.slab_queue.rising_of.Goals as goal

pub loop-key-init : goal.loop-key-init
loop-key-init c = rw c.new-rising.ensures (partly_nothing c.args.parts.now.entries)

pub loop-key-preserved : goal.loop-key-preserved
loop-key-preserved c =
    let s = c.args.parts.now.entries in
    let key = c.loop-key.key in
    elim c.match-get.branch [
      | in-Some w ↦
          subst (λ (v : ArrayVec Entry). IsPartly s (key + 1) v.items) (sym w.rising-is)
          (subst (IsPartly s (key + 1)) (sym w.place.ensures)
          (partly_some s c.requires.apart key c.loop-key.rising.items c.loop-key.invariant w.in-Some.entry.now
          (sym w.in-Some.ensures)))
      | in_default w ↦
          subst (λ (v : ArrayVec Entry). IsPartly s (key + 1) v.items) (sym w.rising-is)
          (partly_none s key c.loop-key.rising.items c.loop-key.invariant (sym w.in_default.ensures))
    ]

pub returns : goal.returns
returns c =
    partly_whole c.args.parts.now.entries c.requires.apart c.loop-key.key c.loop-key.rising.items c.loop-key.invariant
    (omega (arith, c.capacity-key-end.ensures.slots, c.loop-key-test.false))
