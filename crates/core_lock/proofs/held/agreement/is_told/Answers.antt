use Rattle.std.proofs.Common.{◌≡◌, ◌∙◌, ap, sym}
use Rattle.smt_model.specs.Account.{event_count, last_event_of}
use Rattle.core_lock.proofs.held.agreement.is_told.Goals as goal

pub returns-clause-told : goal.returns-clause-told
returns-clause-told g c =
    let past = c.args.core.now.past in
    let k = c.args.pass.now.actor in
    let count : c.tally_of.result.count ≡ event_count k past =
    c.tally_of.ensures.count ∙ ap (event_count k) c.history.ensures.events in
    let last : c.tally_of.result.last ≡ last_event_of k past =
    c.tally_of.ensures.last ∙ ap (last_event_of k) c.history.ensures.events in (
      λ yes. record { counts = (c.has_counted.ensures.0 yes).0 ∙ count; ends = (c.has_counted.ensures.0 yes).1 ∙ last },
      λ told. c.has_counted.ensures.1 (told.counts ∙ sym count, told.ends ∙ sym last),
    )
