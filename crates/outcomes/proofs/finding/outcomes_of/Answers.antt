use Rattle.std.proofs.lemmas.Option.{slice_get_within}
use Rattle.std.proofs.Common.{refl}
use Rattle.outcomes.specs.{Told.told_of}
use Rattle.outcomes.proofs.{Listing.once_told, Sound.asked_told, Claims.listing}
use Rattle.outcomes.proofs.finding.outcomes_of.Goals as goal

pub invariant_of-result : goal.invariant_of-result
invariant_of-result g c = record {
  harts = c.harts-harts.ensures.few;
  places = λ l at.
      let end = c.requires.ends.outcomes.each l at in
      slice_get_within c.args.seen.explored.search.states l.place end.state end.at;
  stuck = c.requires.ends.inside;
}

pub returns-clause-found : goal.returns-clause-found
returns-clause-found g c =
    listing c.args.machine c.args.seen.begun c.args.seen.explored.search c.requires.sound c.requires.begun c.args.budget
    c.args.seen.explored.extent c.requires.explored c.args.watch.now c.requires.watched c.requires.registers
    c.args.seen.ends.listed.items c.requires.ends.outcomes c.args.seen.ends.stuck c.requires.ends.stuck
    c.args.seen.ends.unwritten.items c.requires.ends.unwritten c.harts-harts.result c.harts-harts.ensures.value c.requires.known
    c.harts-harts.ensures.distinct c.into_rows.result c.into_rows.ensures

pub returns-clause-asked : goal.returns-clause-asked
returns-clause-asked g c =
    asked_told (g.U.Until.Asks c.args.until.now) c.args.machine c.args.watch.now c.args.seen.explored.search
    c.args.seen.explored.extent c.args.seen.ends.listed.items c.requires.ends.outcomes c.requires.asked
    (told_of c.into_rows.result c.args.seen.begun.ways c.harts-harts.result c.args.seen.explored.search.origins) (λ l. refl)

pub returns-clause-once : goal.returns-clause-once
returns-clause-once g c =
    once_told (told_of c.into_rows.result c.args.seen.begun.ways c.harts-harts.result c.args.seen.explored.search.origins)
    c.args.seen.ends.listed.items (λ l. refl) c.requires.ends.once

pub returns-clause-searched : goal.returns-clause-searched
returns-clause-searched g c = record {
  machine = c.args.machine;
  sound = c.requires.sound;
  image_is = refl;
  harts_are = refl;
  without_is = refl;
  jumps = λ all. all;
  distinct = c.harts-harts.ensures.distinct;
  begun = c.args.seen.begun;
  begins = c.requires.begun;
  graph_of = c.args.seen.explored.search;
  known = c.requires.known;
  explored = c.requires.explored;
  count = refl;
}
