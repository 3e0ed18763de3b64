use Rattle.std.proofs.Common.{◌++◌, take, drop, sym, ◌∙◌, ap, append_assoc, take-append-drop}
use Rattle.std.proofs.lemmas.List.{take_rest}
use Rattle.event_text.proofs.SinkLaws.{HasPut-append}
use Rattle.event_text.proofs.sink.put_all.Goals as goal

pub loop-rest-preserved : goal.loop-rest-preserved
loop-rest-preserved g c =
    let done = c.loop-rest.invariant.0 in
    let rest = c.loop-rest.rest.now in
    let count = c.in_ok-count.count in (
      done ++ take count rest,
      rw take_rest
          (c.loop-rest.invariant.1 ∙ ap (λ text. done ++ text) (sym (take-append-drop count rest))
          ∙ sym (append_assoc done (take count rest) (drop count rest))),
      HasPut-append g.S.Sink.written g.S.Sink.has_failed _ _ _ done (take count rest) c.loop-rest.invariant.2
          (record {
            appended = c.in_ok-count.ensures.put;
            works = c.in_ok-count.ensures.mark ∙ c.loop-rest.invariant.2.works;
          }),
    )
