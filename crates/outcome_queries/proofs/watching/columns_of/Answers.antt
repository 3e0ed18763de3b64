use Rattle.std.proofs.Common.{not, arith}
use Rattle.outcome_queries.specs.Watches.{is_register}
use Rattle.outcome_queries.proofs.WatchLists.{asked_room}
use Rattle.outcome_queries.proofs.watching.columns_of.Goals as goal

pub push-requires : goal.push-requires
push-requires c = (
  omega arith,
  asked_room is_register c.args.list.now c.loop-asked.asked-index _ c.requires c.loop-asked-test.true
      c.loop-asked.invariant.registers,
)

pub push-requires-in-Bytes : goal.push-requires-in-Bytes
push-requires-in-Bytes c = (
  omega arith,
  asked_room (λ asked. not (is_register asked)) c.args.list.now c.loop-asked.asked-index _ c.requires
      c.loop-asked-test.true c.loop-asked.invariant.words,
)
