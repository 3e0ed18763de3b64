use Rattle.std.proofs.Common.{refl, sym, arith}
use Rattle.sim_inputs.proofs.explained.is_known.Goals as goal

pub returns-in-harts-3 : goal.returns-in-harts-3
returns-in-harts-3 c = (λ _. (2, omega arith, sym c.in-harts.is-queue), λ _. refl)

pub returns-in-harts-4 : goal.returns-in-harts-4
returns-in-harts-4 c = (λ _. (3, omega arith, sym c.in-harts.is-ram), λ _. refl)

pub returns-in-harts-5 : goal.returns-in-harts-5
returns-in-harts-5 c = (λ _. (4, omega arith, sym c.in-harts.is-limit), λ _. refl)

pub returns-in-harts-6 : goal.returns-in-harts-6
returns-in-harts-6 c = (λ _. (5, omega arith, sym c.in-harts.is-turns), λ _. refl)
