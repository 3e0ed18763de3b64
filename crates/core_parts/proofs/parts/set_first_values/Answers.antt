-- One register more has its first number.
use Rattle.std.proofs.Common.{◌≡◌, ◌∙◌, ◌+◌, Some, sym, subst}
use Rattle.std.specs.Prelude.{slice_index_or, slice_set}
use Rattle.std.proofs.lemmas.List.{length-set}
use Rattle.numbers.specs.Layout.{first_register}
use Rattle.core_parts.specs.First.{first_values_below}
use Rattle.core_parts.proofs.Agreement.Beginning.{values_start, values_more}
use Rattle.core_parts.proofs.parts.set_first_values.Goals as goal

pub loop-register-init : goal.loop-register-init
loop-register-init c =
    (c.requires.count, λ x d inside. values_start c.args.harts c.args.hart x (slice_index_or c.args.values.now x d))

pub loop-register-preserved : goal.loop-register-preserved
loop-register-preserved c =
    let r = c.loop-register.register in
    let number = c.first_number.result in
    let place : first_register c.args.hart r ≡ c.first_register-place.result = sym c.first_register-place.ensures in
    let more = values_more c.loop-register.values c.args.values.now c.args.harts c.args.hart r number
    c.loop-register.invariant.0
    c.loop-register.auto.register c.loop-register-test.true c.requires.hart c.first_number.ensures
    c.loop-register.invariant.1 in
    rw c.set.ensures (
      length-set c.loop-register.values c.first_register-place.result (Some number) ∙ c.loop-register.invariant.0,
      λ x d inside. subst
          (λ n. slice_index_or (slice_set c.loop-register.values n (Some number)) x d
          ≡ first_values_below (r + 1) c.args.harts c.args.hart x (slice_index_or c.args.values.now x d))
          place (more x d inside),
    )
