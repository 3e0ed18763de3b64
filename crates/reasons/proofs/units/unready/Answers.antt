use Rattle.std.specs.Prelude.{Some, option_map, find}
use Rattle.std.proofs.Common.{◌∙◌, sym, ap}
use Rattle.issue_queue.specs.declared.entry.Entry.{Entry}
use Rattle.smt_model.specs.Picture.{picture}
use Rattle.core_parts.specs.Agree.{IsEntry}
use Rattle.reasons.specs.Reasons.{oldest_waits}
use Rattle.reasons.proofs.InParts.{found_in, found_waits, none_found, of_unit, unready_none, unready_some}
use Rattle.reasons.proofs.units.unready.Goals as goal

pub returns-then-is_some : goal.returns-then-is_some
returns-then-is_some c =
    unready_none c.args.core.now.setup c.args.core.now.past c.args.kind _ c.parts.ensures.agrees.queue _
    c.oldest_entry.ensures.value (sym c.is_some.ensures ∙ c.if-is_some.true)

pub not_ready-requires-clause-entry : goal.not_ready-requires-clause-entry
not_ready-requires-clause-entry c =
    let looked = c.first_of_kind.ensures
    ∙ ap (find (of_unit c.args.kind)) (c.as_slice.ensures.value ∙ c.rising.ensures.entries) in
    found_in (IsEntry (picture c.args.core.now.setup c.args.core.now.past)) (of_unit c.args.kind) c.in-Some.entry _
    c.parts.ensures.agrees.queue.entries (sym looked ∙ c.in-Some.is)

pub not_ready-requires-clause-waits : goal.not_ready-requires-clause-waits
not_ready-requires-clause-waits c =
    let looked = c.first_of_kind.ensures
    ∙ ap (find (of_unit c.args.kind)) (c.as_slice.ensures.value ∙ c.rising.ensures.entries) in
    found_waits c.args.kind c.in-Some.entry _
    (none_found c.args.kind _ _ c.oldest_entry.ensures.value (sym c.is_some.ensures ∙ c.if-is_some.false))
    (sym looked ∙ c.in-Some.is)

pub returns-in-Some : goal.returns-in-Some
returns-in-Some c =
    let looked = c.first_of_kind.ensures
    ∙ ap (find (of_unit c.args.kind)) (c.as_slice.ensures.value ∙ c.rising.ensures.entries) in
    ap Some c.not_ready.ensures
    ∙ sym (unready_some c.args.core.now.setup c.args.core.now.past c.args.kind _ c.parts.ensures.agrees.queue _
    c.oldest_entry.ensures.value (sym c.is_some.ensures ∙ c.if-is_some.false) _ looked
    ∙ ap (λ f. Some (oldest_waits c.args.core.now.setup c.args.core.now.past c.args.kind
    (option_map (λ (e : Entry). e.seq) f))) c.in-Some.is)

pub returns-in-None : goal.returns-in-None
returns-in-None c =
    let looked = c.first_of_kind.ensures
    ∙ ap (find (of_unit c.args.kind)) (c.as_slice.ensures.value ∙ c.rising.ensures.entries) in
    sym (unready_some c.args.core.now.setup c.args.core.now.past c.args.kind _ c.parts.ensures.agrees.queue _
    c.oldest_entry.ensures.value (sym c.is_some.ensures ∙ c.if-is_some.false) _ looked
    ∙ ap (λ f. Some (oldest_waits c.args.core.now.setup c.args.core.now.past c.args.kind
    (option_map (λ (e : Entry). e.seq) f))) c.in-None.is)
