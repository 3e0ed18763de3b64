use Rattle.std.proofs.lemmas.Result.{on_ok_weaker}
use Rattle.text_fields.proofs.Appending.{appends_more}
use Rattle.story_pictures.specs.Boxes.{what_text}
use Rattle.story_pictures.proofs.boxes.write_what.Goals as goal

pub returns : goal.returns
unfolding what_text
returns g c =
    let placed = rw c.lane_left.ensures at c.in_ok-write_place_attributes.ensures in
    let there = rw c.row_top.ensures at placed in
    on_ok_weaker c.write_all-3.result
    (λ last. appends_more _ _ _ _ _ c.in_ok-write_all.ensures.bytes (appends_more _ _ _ _ _ there
    (appends_more _ _ _ _ _ c.in_ok-write_all-2.ensures.bytes
    (appends_more _ _ _ _ _ c.in_ok-write_deed.ensures last))))
    c.write_all-3.ensures.bytes
