use Rattle.outcome_queries.specs.Watches.{asked_in}
use Rattle.outcome_queries.proofs.WatchLists.{list_full, list_turn, terms_full, terms_turn, terms_step, all_told}
use Rattle.outcome_queries.proofs.WatchLists.{all_once}
use Rattle.outcome_queries.proofs.watching.with_terms.Goals as goal

pub loop-asked-preserved : goal.loop-asked-preserved
loop-asked-preserved c =
    list_turn c.args.list.now _ _ c.loop-asked.asked-index _ c.loop-asked-test.true c.loop-asked.invariant
    (c.add.ensures.once c.if-not-add.false)

pub loop-term-preserved : goal.loop-term-preserved
loop-term-preserved c = record {
  once = terms_turn c.args.list.now _ _ c.args.terms.now c.loop-term.term-index _ c.loop-term-test.true
      c.loop-term.invariant.once (c.add_term.ensures.once c.if-not-add_term.false);
  told = terms_step c.args.list.now _ _ c.args.terms.now c.loop-term.term-index _ c.loop-term-test.true
      c.loop-term.invariant.told c.add_term.ensures.extends (c.add_term.ensures.watched c.if-not-add_term.false);
}

pub returns-clause-once : goal.returns-clause-once
returns-clause-once c =
    all_once c.args.list.now _ c.args.terms.now c.loop-term.term-index c.loop-term-test.false
    c.loop-term.invariant.once

pub returns-clause-watched : goal.returns-clause-watched
returns-clause-watched c =
    all_told _ c.args.terms.now c.loop-term.term-index c.loop-term-test.false c.loop-term.invariant.told

pub returns-then-not-add-clause-none : goal.returns-then-not-add-clause-none
returns-then-not-add-clause-none c =
    list_full c.args.list.now _ (asked_in c.args.terms.now) c.loop-asked.asked-index _ c.loop-asked-test.true
    c.loop-asked.invariant (c.add.ensures.full c.if-not-add.true)

pub returns-then-not-add_term-clause-none : goal.returns-then-not-add_term-clause-none
returns-then-not-add_term-clause-none c =
    terms_full c.args.list.now _ c.args.terms.now c.loop-term.term-index _ c.loop-term-test.true
    c.loop-term.invariant.once (c.add_term.ensures.full c.if-not-add_term.true)
