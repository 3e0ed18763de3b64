use Rattle.std.proofs.lemmas.Result.{on_ok_weaker}
use Rattle.text_fields.proofs.Appending.{appends_more}
use Rattle.story_pictures.specs.Picture.{lane_line}
use Rattle.story_pictures.proofs.picture.write_lane_line.Goals as goal

pub returns : goal.returns
unfolding lane_line
returns g c =
    let there = rw c.lane_middle.ensures at c.in_ok-write_point.ensures in
    let down = rw c.from.ensures at c.in_ok-write_number.ensures in
    on_ok_weaker c.write_all-3.result
    (λ last. appends_more _ _ _ _ _ c.in_ok-write_all.ensures.bytes (appends_more _ _ _ _ _ there
    (appends_more _ _ _ _ _ c.in_ok-write_all-2.ensures.bytes (appends_more _ _ _ _ _ down last))))
    c.write_all-3.ensures.bytes
