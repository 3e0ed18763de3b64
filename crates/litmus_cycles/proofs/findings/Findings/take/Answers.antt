use Rattle.std.proofs.Common.{◌≡◌, true, IfSome, [], ◌∷◌, filter, subst, sym}
use Rattle.litmus_cycles.specs.{Explained.IsJudged, Searched.meets_demand}
use Rattle.litmus_cycles.proofs.{Keeping.kept, Keeping.kept_found, Wholes.same_found, Wholes.filter_yes}
use Rattle.litmus_cycles.proofs.findings.Findings.take.Goals as goal

pub returns-clause-found : goal.returns-clause-found
returns-clause-found c =
    let judged = subst (λ o. IfSome o (IsJudged c.args.demand c.args.test.now c.args.events.now)) c.in-Some.is
    c.in_ok-judged.ensures.judged in
    kept_found c.args.demand c.args.test.now c.args.events.now c.in-Some.judged c.args.self.now c.keep.new.self judged
    c.keep.ensures.keeps c.requires

pub returns-clause-searches : goal.returns-clause-searches
returns-clause-searches c =
    let judged = subst (λ o. IfSome o (IsJudged c.args.demand c.args.test.now c.args.events.now)) c.in-Some.is
    c.in_ok-judged.ensures.judged in
    let meets = subst (λ o. IfSome o (λ it. meets_demand c.args.demand c.args.test.now c.args.events.now ≡ true))
    c.in-Some.is c.in_ok-judged.ensures.some in
    same_found c.args.demand (c.args.events.now ∷ [])
    (filter (meets_demand c.args.demand c.args.test.now) (c.args.events.now ∷ [])) c.args.self.now c.keep.new.self
    (sym (filter_yes (meets_demand c.args.demand c.args.test.now) c.args.events.now meets))
    (kept c.args.demand c.args.test.now c.args.events.now c.in-Some.judged c.args.self.now c.keep.new.self judged
    c.keep.ensures.keeps)
