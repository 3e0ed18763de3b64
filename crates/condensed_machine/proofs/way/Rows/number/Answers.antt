use Rattle.std.proofs.Common.{◌≡◌, ℕ, Some, slice_get, sym, ap, subst, ◌∙◌}
use Rattle.std.proofs.lemmas.Result.{IfOk-weaker}
use Rattle.std.specs.Cmp.{unsigned_Decides}
use Rattle.std.specs.Cmp.Lexicographic.{pointwise_decides}
use Rattle.condensed_machine.specs.Tables.{HasNumber}
use Rattle.condensed_machine.proofs.way.Rows.number.Goals as goal

pub returns-clause-number : goal.returns-clause-number
returns-clause-number c =
    let keys = c.insert_full.new.self.keys in
    let row = c.args.row in
    let stored = c.in_ok-place.ensures.stored in
    let there : slice_get keys c.in_ok-place.place ≡ Some row =
    stored.1 ∙ ap Some (sym ((pointwise_decides unsigned_Decides row stored.0).0 stored.2)) in
    IfOk-weaker c.number_of.result (λ n. n ≡ c.in_ok-place.place) (HasNumber keys row)
    (λ n is. subst (λ (k : ℕ). slice_get keys k ≡ Some row) (sym is) there) c.number_of.ensures
