use Rattle.std.proofs.Common.{◌≡◌, List, [], ◌∷◌, ◌++◌, append_assoc, append-nil, subst, sym, ◌∙◌, ap}
use Rattle.events.specs.{declared.event.Event.Event}
use Rattle.event_text.specs.{Line.line_of, Sinking.HasBroken}
use Rattle.event_text.specs.declared.head.LaterVersion.TheVariants.{Third}
use Rattle.event_text.specs.declared.head.TraceHead.TheVariants.{Later}
use Rattle.event_text.specs.{Heads.ended, Heads.head_lines, Trace.event_lines, Trace.trace_text}
use Rattle.event_text.proofs.SinkLaws.{HasBroken-before, HasBroken-held, HasPutBut-more, HasPutBut-nil, HasPutBut-step}
use Rattle.event_text.proofs.SinkLaws.{on_err, when_err}
use Rattle.event_text.proofs.TraceLaws.{trace_text-append, trace_text-push, trace_text-nil}
use Rattle.event_text.proofs.trace.printing.print_trace.Goals as goal

pub loop-event-init : goal.loop-event-init
loop-event-init g c =
    let head = Later Third c.args.header.now in
    let is : c.push_head.new.text.bytes ≡ head_lines head =
    c.push_head.ensures ∙ ap (λ bytes. bytes ++ head_lines head) c.new-piece.ensures in
    record {
      whole = c.into_iter-event-iterator.ensures.into_iter_gives ∙ c.iter-event-items.ensures.events;
      put =
          rw (trace_text-nil, is)
          (HasPutBut-nil g.S.Sink.written g.S.Sink.has_failed c.args.sink.now (head_lines head) c.requires);
    }

pub returns-in_err-make_room-clause-broken : goal.returns-in_err-make_room-clause-broken
returns-in_err-make_room-clause-broken g c =
    let head = Later Third c.args.header.now in
    let yielded = c.loop-event.yielded in
    let left = c.loop-event.event-iterator in
    let text : trace_text head yielded ++ event_lines left ≡ trace_text head c.args.history.now.items =
    sym (trace_text-append head yielded left) ∙ ap (trace_text head) c.loop-event.invariant.whole in
    when_err _
    (subst (HasBroken g.S.Sink.written g.S.Sink.has_failed g.S.Sink.puts c.args.sink.now c.make_room.new.sink) text
    (HasBroken-before g.S.Sink.written g.S.Sink.has_failed g.S.Sink.puts _ _ (trace_text head yielded)
    (event_lines left)
    (HasBroken-held g.S.Sink.written g.S.Sink.has_failed g.S.Sink.puts _ _ _ _ _ c.loop-event.invariant.put
    c.in_err-make_room.ensures.broken)))

pub loop-event-preserved : goal.loop-event-preserved
loop-event-preserved g c =
    let head = Later Third c.args.header.now in
    let yielded = c.loop-event.yielded in
    let event = c.in-Some.event in
    let held = c.make_room.new.piece.bytes in
    let line : c.push_ascii.new.text.bytes ≡ held ++ ended (line_of event) =
    c.push_ascii.ensures.spelled
    ∙ ap (λ bytes. bytes ++ 10 ∷ []) c.push_event.ensures.spelled
    ∙ append_assoc held (line_of event) (10 ∷ []) in
    record {
      whole = append_assoc yielded (event ∷ []) c.next.new.self
          ∙ ap (λ left. yielded ++ left) (sym c.in-Some.ensures.steps)
          ∙ c.loop-event.invariant.whole;
      put =
          rw (trace_text-push head yielded event, line)
          (HasPutBut-more g.S.Sink.written g.S.Sink.has_failed _ _ (trace_text head yielded) held
          (ended (line_of event))
          (HasPutBut-step g.S.Sink.written g.S.Sink.has_failed _ _ _ _ _ _ c.loop-event.invariant.put
          c.in_ok-make_room.ensures.held));
    }

pub returns-clause-broken : goal.returns-clause-broken
returns-clause-broken g c =
    let head = Later Third c.args.header.now in
    let yielded = c.loop-event.yielded in
    let held : c.as_bytes.result.now ≡ c.loop-event.piece.bytes = c.as_bytes.ensures.value ∙ c.as_str.ensures.value in
    let all : yielded ≡ c.args.history.now.items =
    sym (append-nil yielded) ∙ ap (λ left. yielded ++ left) (sym c.in-None.ensures.steps.0)
    ∙ c.loop-event.invariant.whole in
    on_err c.put_all.result
    (λ broken. subst
    (λ (es : List Event). HasBroken g.S.Sink.written g.S.Sink.has_failed g.S.Sink.puts c.args.sink.now
    c.put_all.new.sink (trace_text head es))
    all
    (HasBroken-held g.S.Sink.written g.S.Sink.has_failed g.S.Sink.puts _ _ _ _ _ c.loop-event.invariant.put
    (subst
    (λ bytes. HasBroken g.S.Sink.written g.S.Sink.has_failed g.S.Sink.puts c.loop-event.sink c.put_all.new.sink bytes)
    held broken)))
    c.put_all.ensures.broken
