use Rattle.std.proofs.Common.{◌≡◌, ◌++◌, ◌∙◌, ap, List, ℕ}
use Rattle.std.proofs.lemmas.Result.{IfOk-weaker}
use Rattle.refused_traces.specs.Why.{IsWhy, event_head}
use Rattle.refused_traces.proofs.explaining.explain_event.Goals as goal

pub returns : goal.returns
returns c =
    let head = event_head c.args.place c.args.event.now in
    IfOk-weaker c.text_of_event.result _ _
    (λ text is. record {
      facts = c.in_ok-facts.facts.items;
      wanted = c.make_wanted-wanted.result.0;
      last = c.in_ok-last.last.items;
      whole =
          is ∙ ap (λ (f : List ℕ). head ++ (f ++ c.as_slice-4.result.now)) c.as_slice-3.ensures.value
          ∙ ap (λ (l : List ℕ). head ++ (c.in_ok-facts.facts.items ++ l)) c.as_slice-4.ensures.value;
      told = c.in_ok-last.ensures.told;
      allowed = c.make_wanted-wanted.ensures;
      none = c.in_ok-last.ensures.none;
    })
    c.text_of_event.ensures
