use Rattle.std.proofs.Common.{◌∙◌, sym, ap}
use Rattle.rename_map.specs.Maps.{renamed_by}
use Rattle.core_parts.specs.Squash.{mapped_by}
use Rattle.core_parts.proofs.Squashing.Map.{mapped_by-concat}
use Rattle.core_parts.proofs.squash.renamings_of.Goals as goal

pub returns-clause-renamed : goal.returns-clause-renamed
returns-clause-renamed c = λ r before above under.
    let older = c.as_slices.result.0.now in
    let newer = c.as_slices.result.1.now in
    c.add_renamings-2.ensures.renamed r before above under
    ∙ ap (mapped_by r newer) (c.add_renamings.ensures.renamed r before above under
    ∙ ap (λ xs. mapped_by r older (renamed_by xs r before)) c.new-renamings.ensures)
    ∙ sym (mapped_by-concat r older newer before) ∙ ap (λ xs. mapped_by r xs before) c.as_slices.ensures.items
