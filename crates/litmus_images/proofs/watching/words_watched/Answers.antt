use Rattle.std.proofs.Common.{arith, ap, sym, ◌∙◌, length, take, map}
use Rattle.std.specs.List.{filter_map}
use Rattle.std.proofs.lemmas.List.{length-map}
use Rattle.litmus_images.specs.Watching.{location_of, cell_of}
use Rattle.litmus_images.proofs.Watched.{word_more, none_more, room}
use Rattle.litmus_images.proofs.watching.words_watched.Goals as goal
use Rattle.litmus_images.proofs.watching.words_watched.Goals.{in-Some, in-None}

pub push-requires : goal.push-requires
push-requires c =
    let small = room location_of c.args.observed.now c.loop-each.each-index c.requires c.loop-each-test.true in
    let same = ap length c.loop-each.invariant
    ∙ length-map (filter_map location_of (take c.loop-each.each-index c.args.observed.now))
    (cell_of c.args.locations.now) in
    (omega arith, omega (arith, small, same))

pub loop-each-preserved : goal.loop-each-preserved
loop-each-preserved c = elim c.match-location_of.branch [
  | in-Some w ↦
      rw w.words-is (w.push.ensures.items
      ∙ word_more c.args.locations.now c.args.observed.now c.loop-each.each-index _ w.in-Some.index _ _
      c.loop-each-test.true (sym w.in-Some.is ∙ c.location_of.ensures) w.cell_of.ensures c.loop-each.invariant)
  | in-None w ↦
      rw w.words-is (c.loop-each.invariant
      ∙ ap (map (cell_of c.args.locations.now)) (none_more location_of c.args.observed.now c.loop-each.each-index _
      c.loop-each-test.true (sym w.in-None.is ∙ c.location_of.ensures)))
]
