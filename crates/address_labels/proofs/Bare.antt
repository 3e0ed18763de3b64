-- Where nothing is wanted beside an address, nothing is written.
use Rattle.std.proofs.Common.{◌≡◌, ℕ, [], refl}
use Rattle.address_labels.specs.declared.writing.Form.{Form}
use Rattle.address_labels.specs.Labels.{no_marks}
use Rattle.address_labels.specs.Texts.{labels_text}

pub no_labels : (form : Form) (address : ℕ) → labels_text form no_marks address ≡ []
unfolding labels_text
no_labels form address = refl
