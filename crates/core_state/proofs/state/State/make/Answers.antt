-- The first state is a core's: its history is empty, and its parts agree with that.
use Rattle.std.proofs.{Common.refl, Common.arith, lemmas.Grind.common_steps}
use Rattle.core_state.proofs.state.State.make.Goals as goal

pub invariant_of-state : goal.invariant_of-state
invariant_of-state c = rw c.in_ok-history.ensures (record {
  sizes = c.requires.accepted;
  limit = c.requires.limit;
  harts = c.in_ok-parts.ensures.harts;
  queue = c.in_ok-parts.ensures.queue;
  image = c.in_ok-parts.ensures.image;
  code = c.in_ok-code.ensures;
  legal = tt;
  agrees = c.in_ok-parts.ensures.begins _ refl refl refl;
  fetched = refl;
  last = refl;
  looks = refl;
  records = c.in_ok-records.ensures.items;
  output = c.in_ok-output.ensures.items;
  records_fit = grind (arith, common_steps);
  output_fit = grind (arith, common_steps);
  records_room = grind (arith, common_steps);
  output_room = grind (arith, common_steps);
})
