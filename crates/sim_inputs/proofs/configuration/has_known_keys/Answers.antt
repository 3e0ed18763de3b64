use Rattle.std.proofs.Common.{rules, tests}
use Rattle.std.proofs.{lemmas.Iterator.cases_from_all, lemmas.Iterator.Consumers.YieldsList-from_rest}
use Rattle.sim_inputs.proofs.Keys.{IsKnown, all_known}
use Rattle.sim_inputs.proofs.configuration.has_known_keys.Goals as goal

pub returns : goal.returns
returns c =
    let entries = c.args.table.now.entries in
    all_known c.all.result entries
    (cases_from_all _ _ _ IsKnown (λ key. IsKnown key → ⊥) c.all.ensures.ran
    (YieldsList-from_rest _ c.keys.ensures.rest)
    (λ x q k. search (rules, tests)) (λ x q k. search (rules, tests)))
