use Rattle.std.proofs.Common.{◌≡◌, List, get_or, sym, ap, subst, ◌∙◌}
use Rattle.std.proofs.lemmas.{List.get_or_default, Option.slice_get-get_or}
use Rattle.std.proofs.lemmas.Result.{IfOk-weaker}
use Rattle.elf_image.specs.Image.{byte_in}
use Rattle.changed_memory.specs.{Canonical.IsCanonical, Shared.Shared, Shared.changed}
use Rattle.condensed_machine.specs.{Decoded.shared_at, Decoded.no_shared}
use Rattle.condensed_machine.specs.{Executing.SharedAfter, Tables.HasNumber, Tables.IsSharedAfter}
use Rattle.condensed_machine.proofs.Coded.{code_after}
use Rattle.condensed_machine.proofs.tables.number_shared.Goals as goal
use Rattle.condensed_machine.proofs.tables.number_shared.Goals.{After-number_of_shared}

copied : (c : After-number_of_shared) → c.copy_from.new.self ≡ shared_at c.args.shared.now.keys c.args.before
copied c =
    let one = c.index-as_slice-before.result in
    c.in_ok-copy_from.ensures ∙ c.index-as_slice-before.is
    ∙ ap (λ (xs : List Shared). get_or xs c.args.before one) c.as_slice.ensures.keys
    ∙ get_or_default c.args.shared.now.keys c.args.before one no_shared c.requires.inside

behind : (c : After-number_of_shared) → SharedAfter c.args.start.now.image c.args.hart c.args.executed c.args.is_kept
    (shared_at c.args.shared.now.keys c.args.before) c.rest_reservation.new.shared
behind c =
    let image = c.args.start.now.image in
    let rested = c.rest_reservation.ensures in
    subst (λ (old : Shared). SharedAfter image c.args.hart c.args.executed c.args.is_kept old
    c.rest_reservation.new.shared) (copied c)
    (record {
      reserved = λ g stays. rested.reserved g stays ∙ c.in_ok-advance.ensures.reserved g;
      dropped = rested.dropped;
      bytes = λ a.
          ap (λ cs. changed cs a (byte_in image a)) rested.changes ∙ c.in_ok-advance.ensures.bytes a;
      output = rested.output ∙ c.in_ok-advance.ensures.output;
    })

pub returns-clause-number : goal.returns-clause-number
returns-clause-number c =
    let image = c.args.start.now.image in
    let before = shared_at c.args.shared.now.keys c.args.before in
    let after = c.rest_reservation.new.shared in
    let table = c.number_of_shared.new.shared.keys in
    IfOk-weaker c.number_of_shared.result (HasNumber table after)
    (IsSharedAfter image c.args.hart c.args.executed c.args.is_kept before table)
    (λ n has. record { after = after; has = has; is = behind (goal.at.returns-clause-number c).After-number_of_shared })
    c.number_of_shared.ensures.number

pub returns-clause-code : goal.returns-clause-code
returns-clause-code c = λ codes.
    let image = c.args.start.now.image in
    let old = c.args.shared.now.keys in
    let before = shared_at old c.args.before in
    c.number_of_shared.ensures.code image codes
    (code_after image c.args.hart c.args.executed c.args.is_kept before c.rest_reservation.new.shared c.requires.allowed
    (behind (goal.at.returns-clause-code c).After-number_of_shared)
    (codes c.args.before before (slice_get-get_or old c.args.before no_shared c.requires.inside)))

pub returns-clause-forms : goal.returns-clause-forms
returns-clause-forms c = λ forms.
    let image = c.args.start.now.image in
    let old = c.args.shared.now.keys in
    let before = shared_at old c.args.before in
    let held = forms c.args.before before (slice_get-get_or old c.args.before no_shared c.requires.inside) in
    let at = (goal.at.returns-clause-forms c).After-number_of_shared in
    c.number_of_shared.ensures.forms image forms
    (c.rest_reservation.ensures.form image
    (c.in_ok-advance.ensures.canonical (subst (IsCanonical image) (sym (copied at)) held)))
