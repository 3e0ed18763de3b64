use Rattle.std.proofs.Common.{rules}
use Rattle.rv_execute.proofs.effect.effect_of.Goals as goal

pub returns-in-Atomic : goal.returns-in-Atomic
returns-in-Atomic c = λ n same. let read = same (search rules) in search (rules, read)

pub returns-in-Computing : goal.returns-in-Computing
returns-in-Computing c = λ n same. search rules

pub returns-in-Conditional : goal.returns-in-Conditional
returns-in-Conditional c = λ n same. search rules

pub returns-in-Loading : goal.returns-in-Loading
returns-in-Loading c = λ n same. let read = same (search rules) in search (rules, read)

pub returns-in-Storing : goal.returns-in-Storing
returns-in-Storing c = λ n same. search rules
