use Rattle.std.proofs.Common.{arith}
use Rattle.core_lock.proofs.held.dealing.deal_four.Goals as goal

pub deal-a-requires-clause-made : goal.deal-a-requires-clause-made
deal-a-requires-clause-made g c = c.requires.made

pub deal-a-requires-clause-inside : goal.deal-a-requires-clause-inside
deal-a-requires-clause-inside g c = omega (arith, c.requires.inside)

pub returns-clause-a : goal.returns-clause-a
returns-clause-a g c = c.deal-a.ensures.dealt

pub deal-b-requires-clause-made : goal.deal-b-requires-clause-made
deal-b-requires-clause-made g c = c.requires.made

pub deal-b-requires-clause-inside : goal.deal-b-requires-clause-inside
deal-b-requires-clause-inside g c = omega (arith, c.requires.inside)

pub returns-clause-b : goal.returns-clause-b
returns-clause-b g c = c.deal-b.ensures.dealt

pub deal-c-requires-clause-made : goal.deal-c-requires-clause-made
deal-c-requires-clause-made g c = c.requires.made

pub deal-c-requires-clause-inside : goal.deal-c-requires-clause-inside
deal-c-requires-clause-inside g c = omega (arith, c.requires.inside)

pub returns-clause-c : goal.returns-clause-c
returns-clause-c g c = c.deal-c.ensures.dealt

pub deal-d-requires-clause-made : goal.deal-d-requires-clause-made
deal-d-requires-clause-made g c = c.requires.made

pub deal-d-requires-clause-inside : goal.deal-d-requires-clause-inside
deal-d-requires-clause-inside g c = omega (arith, c.requires.inside)

pub returns-clause-d : goal.returns-clause-d
returns-clause-d g c = c.deal-d.ensures.dealt

pub deal-a-requires-clause-parts : goal.deal-a-requires-clause-parts
deal-a-requires-clause-parts g c = c.requires.parts

pub deal-a-requires-clause-amount : goal.deal-a-requires-clause-amount
deal-a-requires-clause-amount g c = c.requires.amount

pub deal-b-requires-clause-parts : goal.deal-b-requires-clause-parts
deal-b-requires-clause-parts g c = c.deal-a.ensures.parts

pub deal-b-requires-clause-amount : goal.deal-b-requires-clause-amount
deal-b-requires-clause-amount g c = c.deal-a.ensures.amount
