use Rattle.std.proofs.Common.{◌≡◌, ℕ, Some, slice_get, sym, ap, subst, ◌∙◌}
use Rattle.std.proofs.lemmas.Result.{IfOk-weaker}
use Rattle.changed_memory.specs.{Canonical.IsCanonical, Same.is_same, SameLaws.equal_is_one}
use Rattle.condensed_machine.specs.{Distinct.HaveOneForm, Machine.HasCode, Machine.HaveCode, Machine.Keeps}
use Rattle.condensed_machine.specs.Tables.{HasNumber}
use Rattle.condensed_machine.proofs.Growth.{keeps_put, each_put}
use Rattle.condensed_machine.proofs.tables.number_new.Goals as goal

pub returns-clause-number : goal.returns-clause-number
returns-clause-number c =
    let keys = c.insert_full.new.self.keys in
    let new = c.args.new in
    let stored = c.in_ok-place.ensures.stored in
    let there : slice_get keys c.in_ok-place.place ≡ Some new =
    stored.1 ∙ ap Some (sym (equal_is_one new stored.0 stored.2)) in
    IfOk-weaker c.number_of.result (λ n. n ≡ c.in_ok-place.place) (HasNumber keys new)
    (λ n is. subst (λ (k : ℕ). slice_get keys k ≡ Some new) (sym is) there) c.number_of.ensures

pub returns-clause-kept : goal.returns-clause-kept
returns-clause-kept c =
    subst (Keeps c.args.shared.now.keys) (sym c.in_ok-place.ensures.keys)
    (keeps_put c.args.new is_same c.args.shared.now.keys)

pub returns-clause-code : goal.returns-clause-code
returns-clause-code c = λ image each own.
    subst (HaveCode image) (sym c.in_ok-place.ensures.keys)
    (each_put c.args.new is_same c.args.shared.now.keys (HasCode image) each own)

pub returns-clause-forms : goal.returns-clause-forms
returns-clause-forms c = λ image each own.
    subst (HaveOneForm image) (sym c.in_ok-place.ensures.keys)
    (each_put c.args.new is_same c.args.shared.now.keys (IsCanonical image) each own)

pub returns-in_err-place-clause-forms : goal.returns-in_err-place-clause-forms
returns-in_err-place-clause-forms c = λ image each own. subst (HaveOneForm image) (sym c.in_err-place.ensures.err) each
