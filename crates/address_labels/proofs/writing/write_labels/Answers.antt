use Rattle.std.proofs.lemmas.Result.{on_ok_weaker}
use Rattle.text_fields.proofs.Appending.{appends_more}
use Rattle.address_labels.specs.Texts.{labels_text}
use Rattle.address_labels.proofs.writing.write_labels.Goals as goal

pub returns : goal.returns
unfolding labels_text
returns g c =
    on_ok_weaker c.write_line_field.result (λ told. appends_more _ _ _ _ _ c.in_ok-write_name_field.ensures told)
    c.write_line_field.ensures
