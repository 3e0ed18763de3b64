use Rattle.std.specs.Prelude.{sum}
use Rattle.std.proofs.Common.{◌∙◌, refl, ap, sym}
use Rattle.core_lock.proofs.held.Held.finish.Goals as goal

pub returns-clause-core : goal.returns-clause-core
returns-clause-core g c = refl

pub returns-clause-counts : goal.returns-clause-counts
returns-clause-counts g c = c.counts_of-counts.ensures

pub returns-clause-idle : goal.returns-clause-idle
returns-clause-idle g c = refl

pub returns-clause-sum : goal.returns-clause-sum
returns-clause-sum g c =
    ap sum c.counts_of-counts.ensures ∙ sym c.gather-all.ensures.amount
    ∙ c.audit.ensures.whole (c.gather-all.ensures.parts ∙ sym c.requires) ∙ sym c.args.self.counted

pub invariant_of-finished : goal.invariant_of-finished
invariant_of-finished g c = record {
  whole =
      ap sum c.counts_of-counts.ensures ∙ sym c.gather-all.ensures.amount
      ∙ c.audit.ensures.whole (c.gather-all.ensures.parts ∙ sym c.requires) ∙ sym c.args.self.counted;
}

pub invariant_of-result : goal.invariant_of-result
invariant_of-result g c = record { counted = c.each.ensures }

pub returns-clause-told : goal.returns-clause-told
returns-clause-told g c = c.are_told-told.ensures

pub returns-clause-own : goal.returns-clause-own
returns-clause-own g c = c.is_of-own.ensures

pub returns-clause-origin : goal.returns-clause-origin
returns-clause-origin g c = (c.args.self.setup, c.args.self.limit)

pub returns-clause-shown : goal.returns-clause-shown
returns-clause-shown g c = c.show.ensures.shown
