use Rattle.std.proofs.Common.{◌≡◌, ◌+◌, ◌∙◌, refl, ap, arith}
use Rattle.numbers.specs.Sizes.{most_actors}
use Rattle.smt_core.specs.Counts.{made_from}
use Rattle.smt_core.proofs.Counting.{own_and_greater, none_from_most}
use Rattle.core_lock.proofs.Tallying.{dealt_at}
use Rattle.core_lock.proofs.held.dealing.deal.Goals as goal

pub split_off-part-requires-clause-has_amount : goal.split_off-part-requires-clause-has_amount
split_off-part-requires-clause-has_amount g c =
    let past = c.args.core.now.past in
    let k = c.args.actor in
    let count = (dealt_at past c.history-history.result.now.items c.args.made.now c.args.actor _ _ _
    c.history-history.ensures.events c.requires.made c.tally_at-count.ensures c.from.ensures).counts in
    omega (arith, count, c.requires.amount, own_and_greater k past)

pub split_off-part-requires-clause-left_backed : goal.split_off-part-requires-clause-left_backed
split_off-part-requires-clause-left_backed g c = λ last_one.
    let past = c.args.core.now.past in
    let k = c.args.actor in
    let count = (dealt_at past c.history-history.result.now.items c.args.made.now c.args.actor _ _ _
    c.history-history.ensures.events c.requires.made c.tally_at-count.ensures c.from.ensures).counts in
    let last : k + 1 ≡ most_actors = omega (arith, last_one, c.requires.parts) in
    let none_left : made_from (k + 1) past ≡ 0 =
    ap (λ n. made_from n past) last
    ∙ none_from_most c.args.core.now.setup past c.history-history.ensures.legal c.history-history.ensures.actors in
    omega (arith, count, c.requires.amount, own_and_greater k past, none_left)

pub returns-clause-amount : goal.returns-clause-amount
returns-clause-amount g c =
    let past = c.args.core.now.past in
    let k = c.args.actor in
    let count = (dealt_at past c.history-history.result.now.items c.args.made.now c.args.actor _ _ _
    c.history-history.ensures.events c.requires.made c.tally_at-count.ensures c.from.ensures).counts in
    omega (arith, count, c.requires.amount, own_and_greater k past, c.split_off-part.ensures.amount_left)

pub returns-clause-dealt : goal.returns-clause-dealt
returns-clause-dealt g c = (
  refl,
  dealt_at c.args.core.now.past c.history-history.result.now.items c.args.made.now c.args.actor _ _ _
      c.history-history.ensures.events c.requires.made c.tally_at-count.ensures c.from.ensures,
)
