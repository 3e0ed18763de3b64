use Rattle.std.proofs.Common.{◌∙◌, refl, sym, ap, subst, length, List, arith}
use Rattle.std.proofs.lemmas.List.Edits.{length-insert}
use Rattle.outcomes.specs.{Lists.HasEnding, declared.listed.Listed.Listed}
use Rattle.outcomes.proofs.Listing.{IsInserted, put_in, once_put}
use Rattle.outcomes.proofs.listed.put.Goals as goal

inserted : (c : goal.In_ok-insert)
    → IsInserted c.args.listed.now.items c.index_for-index.result (record { outcome = c.args.outcome; place = c.args.place })
    c.insert.new.self.items
inserted c =
    let made = c.in_ok-insert.ensures in
    record {
      long = ap length made.items ∙ length-insert c.args.listed.now.items c.index_for-index.result _ (omega (arith, ap length c.as_slice-then-not-is_listed.ensures.value, c.index_for-index.ensures.within));
      within = omega (arith, ap length c.as_slice-then-not-is_listed.ensures.value, c.index_for-index.ensures.within);
      here = λ d. made.by_index.0 d refl;
      before = made.by_index.1;
      behind = λ k d above. made.by_index.2 k d refl above;
    }

pub returns-in_ok-insert : goal.returns-in_ok-insert
returns-in_ok-insert c = record {
  put = put_in c.args.listed.now.items c.insert.new.self.items c.index_for-index.result
      (record { outcome = c.args.outcome; place = c.args.place }) (inserted c);
  once = once_put c.args.listed.now.items c.insert.new.self.items c.index_for-index.result
      (record { outcome = c.args.outcome; place = c.args.place }) (inserted c)
      (λ has. c.is_listed.ensures.absent c.if-not-is_listed.true
      (subst (λ (listed : List Listed). HasEnding listed c.args.outcome) (sym c.as_slice.ensures.value) has));
}
