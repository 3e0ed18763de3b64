use Rattle.std.proofs.Common.{◌∙◌, sym, ap}
use Rattle.std.specs.{Prelude.find, Prelude.Some, Option.option_or}
use Rattle.std.proofs.lemmas.List.Folds.{find-append}
use Rattle.retire_squash.specs.declared.active.Active.{Active}
use Rattle.smt_model.specs.Basics.{same_number}
use Rattle.reasons.proofs.units.holder_of.Goals as goal

pub returns-in-Some : goal.returns-in-Some
returns-in-Some c =
    let p = λ (a : Active). same_number a.phys (Some c.args.phys) in
    let older = c.as_slices.result.0.now in
    let newer = c.as_slices.result.1.now in
    ap (λ o. option_or o (find p newer)) (sym c.in-Some.is ∙ c.holder_among.ensures) ∙ sym (find-append p older newer)
    ∙ ap (find p) c.as_slices.ensures.items

pub returns-in-None : goal.returns-in-None
returns-in-None c =
    let p = λ (a : Active). same_number a.phys (Some c.args.phys) in
    let older = c.as_slices.result.0.now in
    let newer = c.as_slices.result.1.now in
    c.holder_among-in-None.ensures ∙ ap (λ o. option_or o (find p newer)) (sym c.in-None.is ∙ c.holder_among.ensures)
    ∙ sym (find-append p older newer) ∙ ap (find p) c.as_slices.ensures.items
