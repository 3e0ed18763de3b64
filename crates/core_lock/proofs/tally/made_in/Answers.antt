use Rattle.std.proofs.Common.{take, reverse, subst, arith}
use Rattle.std.proofs.lemmas.List.{take_all}
use Rattle.numbers.specs.Sizes.{most_actors, most_events}
use Rattle.core_lock.specs.Tallies.{AreMade}
use Rattle.core_lock.proofs.Tallying.{few, entered, none_made, short_of}
use Rattle.core_lock.proofs.tally.made_in.Goals as goal

pub enter-requires : goal.enter-requires
enter-requires c =
    let items = c.args.history.now.items in
    record {
      few = few (reverse (take c.loop-place.place items)) items c.loop-place.made most_events
          (short_of items c.loop-place.place most_events (omega (arith, c.loop-place-test.true, c.len-place-end.ensures.count))
          (omega (arith, c.len-place-end.ensures.count, c.len-place-end.ensures.within, c.len-place-end.ensures.small)))
          c.loop-place.invariant;
    }

pub loop-place-preserved : goal.loop-place-preserved
loop-place-preserved c =
    entered c.args.history.now.items c.loop-place.made c.enter.new.made c.loop-place.place
    (omega (arith, c.loop-place-test.true, c.len-place-end.ensures.count)) c.enter.ensures c.loop-place.invariant

pub returns : goal.returns
returns c =
    subst (λ events. AreMade (reverse events) c.args.history.now.items c.loop-place.made)
    (take_all c.loop-place.place c.args.history.now.items
    (omega (arith, c.loop-place-test.false, c.len-place-end.ensures.count))) c.loop-place.invariant

pub loop-place-init : goal.loop-place-init
loop-place-init c = none_made c.args.history.now.items most_actors
