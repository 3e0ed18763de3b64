use Rattle.std.proofs.lemmas.Result.{on_ok_weaker}
use Rattle.text_fields.proofs.Appending.{appends_more}
use Rattle.story_pictures.specs.Elements.{open_text}
use Rattle.story_pictures.proofs.elements.write_open_text.Goals as goal

pub returns : goal.returns
unfolding open_text
returns g c =
    let named = rw c.as_bytes.ensures.value at c.in_ok-write_all-2.ensures.bytes in
    on_ok_weaker c.write_all-4.result
    (λ last. appends_more _ _ _ _ _ c.in_ok-write_all.ensures.bytes (appends_more _ _ _ _ _ named
    (appends_more _ _ _ _ _ c.in_ok-write_all-3.ensures.bytes
    (appends_more _ _ _ _ _ c.in_ok-write_place_attributes.ensures last))))
    c.write_all-4.ensures.bytes
