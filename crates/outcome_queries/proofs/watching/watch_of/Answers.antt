use Rattle.std.proofs.Common.{arith}
use Rattle.outcome_queries.proofs.WatchLists.{register_step, register_room, word_step, word_room}
use Rattle.outcome_queries.proofs.watching.watch_of.Goals as goal
use Rattle.outcome_queries.proofs.watching.watch_of.Goals.{in-Register, in-Bytes}

pub push-requires : goal.push-requires
push-requires c = (
  omega arith,
  register_room c.args.list.now c.loop-asked.asked-index _ c.requires c.loop-asked-test.true
      c.loop-asked.invariant.registers,
)

pub push-requires-in-Bytes : goal.push-requires-in-Bytes
push-requires-in-Bytes c = (
  omega arith,
  word_room c.args.list.now c.loop-asked.asked-index _ c.requires c.loop-asked-test.true
      c.loop-asked.invariant.words,
)

pub loop-asked-preserved : goal.loop-asked-preserved
loop-asked-preserved c = elim c.match-asked.branch [
  | in-Register w ↦
      let step = register_step c.args.list.now c.loop-asked.asked-index w.in-Register.hart w.in-Register.register _ _ _
      _ c.loop-asked-test.true w.in-Register.is c.loop-asked.invariant.registers c.loop-asked.invariant.words
      w.push.ensures.items in
      rw (w.registers-is, w.words-is) record { registers = step.0; words = step.1 }
  | in-Bytes w ↦
      let step = word_step c.args.list.now c.loop-asked.asked-index w.in-Bytes.bytes _ _ _ _
      c.loop-asked-test.true w.in-Bytes.is c.loop-asked.invariant.registers c.loop-asked.invariant.words
      w.push-in-Bytes.ensures.items in
      rw (w.registers-is, w.words-is) record { registers = step.0; words = step.1 }
]
