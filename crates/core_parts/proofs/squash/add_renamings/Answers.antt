use Rattle.std.proofs.Common.{◌∙◌, sym, ap, arith}
use Rattle.rename_map.specs.Maps.{renamed_by}
use Rattle.smt_model.specs.Steps.{renamed_map}
use Rattle.core_parts.proofs.Squashing.Map.{mapped_by_more}
use Rattle.core_parts.proofs.squash.add_renamings.Goals as goal

pub loop-one-preserved : goal.loop-one-preserved
loop-one-preserved c = (
  omega (arith, c.add_renaming.ensures.length, c.loop-one.invariant.0),
  c.add_renaming.ensures.writable,
  λ r before above under.
      c.add_renaming.ensures.renamed r before above under
      ∙ ap (renamed_map _ _ r) (c.loop-one.invariant.2 r before above under)
      ∙ sym (mapped_by_more r c.args.active.now c.loop-one.one-index _
      (renamed_by c.args.renamings.now.items r before) c.loop-one-test.true),
)
