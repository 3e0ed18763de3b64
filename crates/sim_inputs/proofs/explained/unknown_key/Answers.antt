use Rattle.std.proofs.Common.{rules, tests, string_bytes}
use Rattle.std.proofs.{lemmas.Iterator.first_from_find, lemmas.Iterator.Consumers.YieldsList-from_rest}
use Rattle.sim_inputs.specs.Explained.{IsUnknown}
use Rattle.sim_inputs.proofs.{Keys.IsKnown, Faults.none_unknown, Faults.some_unknown}
use Rattle.sim_inputs.proofs.explained.unknown_key.Goals as goal

pub returns-in-None-clause-none : goal.returns-in-None-clause-none
returns-in-None-clause-none c =
    none_unknown c.find.result c.args.table.now.entries
    (first_from_find _ _ c.find.result (λ key. IsUnknown (string_bytes key)) IsKnown c.find.ensures.ran
    (YieldsList-from_rest _ c.keys.ensures.rest)
    (λ x q k. search (rules, tests)) (λ x q k. search (rules, tests)))
    c.in-None.is

pub returns-in-Some-clause-unknown : goal.returns-in-Some-clause-unknown
returns-in-Some-clause-unknown c =
    some_unknown c.find.result c.args.table.now.entries c.in-Some.key c.as_str.result.now
    (first_from_find _ _ c.find.result (λ key. IsUnknown (string_bytes key)) IsKnown c.find.ensures.ran
    (YieldsList-from_rest _ c.keys.ensures.rest)
    (λ x q k. search (rules, tests)) (λ x q k. search (rules, tests)))
    c.in-Some.is (search rules)
