use Rattle.std.proofs.lemmas.Result.{on_ok_weaker}
use Rattle.text_fields.proofs.Appending.{appends_more}
use Rattle.story_pictures.specs.Picture.{begin_text}
use Rattle.story_pictures.proofs.picture.write_begin.Goals as goal

pub returns : goal.returns
unfolding begin_text
returns g c =
    let wide = rw c.from.ensures at c.in_ok-write_number.ensures in
    let high = rw c.from-2.ensures at c.in_ok-write_number-2.ensures in
    on_ok_weaker c.write_view.result
    (λ last. appends_more _ _ _ _ _ c.in_ok-write_all.ensures.bytes (appends_more _ _ _ _ _ wide
    (appends_more _ _ _ _ _ c.in_ok-write_all-2.ensures.bytes (appends_more _ _ _ _ _ high last))))
    c.write_view.ensures
