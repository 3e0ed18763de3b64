use Rattle.std.proofs.Common.{ap, ◌∙◌, true, length, arith}
use Rattle.std.proofs.lemmas.List.{length-set}
use Rattle.searches.proofs.Marking.{end_inside, first_more, first_all}
use Rattle.searches.proofs.search.Search.marked_ends.Goals as goal

pub index_mut-requires : goal.index_mut-requires
index_mut-requires g c =
    let at = end_inside c.as_slice-end-items.result.now c.self.inside.ends.items (length c.self.inside.states.keys)
    c.as_slice-end-items.ensures.value
    c.self.invariant.ends_inside c.loop-end.end-index c.loop-end-test.true in
    omega (arith, at.1, ap (λ f. length f.states) c.self.view_is, c.loop-end.invariant.paired, c.loop-end.marks.ok)

pub loop-end-preserved : goal.loop-end-preserved
loop-end-preserved g c =
    let items = c.as_slice-end-items.result.now in
    let marks = c.loop-end.marks.items in
    let at = end_inside items c.self.inside.ends.items (length c.self.inside.states.keys)
    c.as_slice-end-items.ensures.value
    c.self.invariant.ends_inside c.loop-end.end-index c.loop-end-test.true in
    record {
      paired = length-set marks _ true ∙ c.loop-end.invariant.paired;
      exact = first_more items marks c.loop-end.end-index _ at.0
          (omega (arith, at.1, ap (λ f. length f.states) c.self.view_is, c.loop-end.invariant.paired))
          c.loop-end.invariant.exact;
    }

pub returns : goal.returns
returns g c = record {
  paired = c.loop-end.invariant.paired;
  exact = first_all c.as_slice-end-items.result.now c.args.self.now.ends
      (c.as_slice-end-items.ensures.value ∙ ap (λ f. f.ends) c.self.view_is) c.loop-end.marks.items
      c.loop-end.end-index c.loop-end-test.false
      c.loop-end.invariant.exact;
}
