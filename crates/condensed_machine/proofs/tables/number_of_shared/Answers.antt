use Rattle.std.proofs.Common.{◌≡◌, ℕ, Some, slice_get, get_or, sym, ap, subst, ◌∙◌}
use Rattle.std.proofs.lemmas.List.Quantifiers.{position-Some}
use Rattle.std.proofs.lemmas.Option.{slice_get-get_or}
use Rattle.std.proofs.lemmas.Result.{IfOk-weaker}
use Rattle.changed_memory.specs.{Canonical.IsCanonical, Same.is_same, SameLaws.equal_is_one}
use Rattle.condensed_machine.specs.{Decoded.no_shared, Tables.HasNumber}
use Rattle.condensed_machine.proofs.tables.number_of_shared.Goals as goal

pub returns-in-Some-clause-number : goal.returns-in-Some-clause-number
returns-in-Some-clause-number c =
    let keys = c.args.shared.now.keys in
    let wanted = c.args.wanted.now in
    let place = c.in-Some.place in
    let found = position-Some (is_same wanted) keys place no_shared (sym c.in-Some.ensures.index) in
    let there : slice_get keys place ≡ Some wanted =
    slice_get-get_or keys place no_shared found.0
    ∙ ap Some (sym (equal_is_one wanted (get_or keys place no_shared) found.1)) in
    IfOk-weaker c.number_of.result (λ n. n ≡ place) (HasNumber keys wanted)
    (λ n is. subst (λ (k : ℕ). slice_get keys k ≡ Some wanted) (sym is) there) c.number_of.ensures

pub returns-clause-forms : goal.returns-clause-forms
returns-clause-forms c = λ image each own.
    c.number_new.ensures.forms image each (subst (IsCanonical image) (sym c.in_ok-copy.ensures) own)
