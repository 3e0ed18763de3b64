-- The registers of one hart more have their first numbers.
use Rattle.std.proofs.Common.{◌≡◌, arith, subst}
use Rattle.core_parts.specs.First.{AreFirst}
use Rattle.core_parts.proofs.Agreement.Beginning.{first_start, first_more}
use Rattle.core_parts.proofs.parts.first_registers.Goals as goal

pub loop-hart-init : goal.loop-hart-init
loop-hart-init c =
    (first_start c.args.harts c.in_ok-values.values c.in_ok-values.ensures.none, c.in_ok-values.ensures.count)

pub loop-hart-preserved : goal.loop-hart-preserved
loop-hart-preserved c = (
  first_more c.args.harts c.loop-hart.hart c.loop-hart.values c.set_first_values.new.values
      c.set_first_values.ensures.values c.loop-hart.invariant.0,
  c.set_first_values.ensures.count,
)

pub returns-clause-first : goal.returns-clause-first
returns-clause-first c =
    let upto = c.loop-hart.auto.hart-end in
    let end = c.loop-hart-test.false in
    let all : c.loop-hart.hart ≡ c.args.harts = omega arith in
    subst (λ n. AreFirst c.args.harts n c.loop-hart.values) all c.loop-hart.invariant.0
