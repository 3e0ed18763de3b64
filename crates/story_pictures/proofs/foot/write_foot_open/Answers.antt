use Rattle.std.proofs.lemmas.Result.{on_ok_weaker}
use Rattle.text_fields.proofs.Appending.{appends_more}
use Rattle.story_pictures.specs.Foot.{foot_open}
use Rattle.story_pictures.proofs.foot.write_foot_open.Goals as goal

pub returns : goal.returns
unfolding foot_open
returns g c =
    let number = rw c.from.ensures at c.in_ok-write_number.ensures in
    on_ok_weaker c.write_all-2.result
    (λ last. appends_more _ _ _ _ _ c.in_ok-write_all.ensures.bytes (appends_more _ _ _ _ _ number last))
    c.write_all-2.ensures.bytes
