use Rattle.std.proofs.Common.{◌∙◌, sym, ap}
use Rattle.rename_map.specs.Maps.{renamed_by}
use Rattle.smt_model.specs.Steps.{renamed_map}
use Rattle.core_parts.proofs.Squashing.Map.{renamed_by-append}
use Rattle.core_parts.proofs.squash.add_renaming.Goals as goal

pub returns-in-1-to-31-Some-clause-renamed : goal.returns-in-1-to-31-Some-clause-renamed
returns-in-1-to-31-Some-clause-renamed c = λ r before above under.
    let old = c.args.renamings.now.items in
    ap (λ xs. renamed_by xs r before) c.push.ensures.items
    ∙ renamed_by-append r old (c.args.one.now.rd, c.in-1-to-31-Some.phys) before
    ∙ sym (ap (λ o. renamed_map c.args.one.now.rd o r (renamed_by old r before)) c.in-1-to-31-Some.is-1)
