use Rattle.std.proofs.lemmas.Result.{on_ok_weaker}
use Rattle.text_fields.proofs.Appending.{appends_more}
use Rattle.story_pictures.specs.Boxes.{frame_text}
use Rattle.story_pictures.proofs.boxes.write_frame.Goals as goal

pub returns : goal.returns
unfolding frame_text
returns g c =
    let kind = rw c.kind_of.ensures at (rw c.as_bytes.ensures.value at c.in_ok-write_all-2.ensures.bytes) in
    on_ok_weaker c.write_size.result
    (λ last. appends_more _ _ _ _ _ c.in_ok-write_all.ensures.bytes (appends_more _ _ _ _ _ kind
    (appends_more _ _ _ _ _ c.in_ok-write_look_classes.ensures last)))
    c.write_size.ensures
