use Rattle.std.proofs.Common.{sym, ◌∙◌}
use Rattle.std.proofs.lemmas.List.Elements.{All-push}
use Rattle.litmus_reading.specs.Names.{IsNewLocation}
use Rattle.litmus_reading.proofs.Totals.{begins_behind, first_before, made, next_fits, next_named, next_told}
use Rattle.litmus_reading.proofs.locations.locations_in.Goals as goal

pub loop-word-preserved : goal.loop-word-preserved
loop-word-preserved c = record {
  told = next_told c.args.text.now c.args.words.now _ c.loop-word.names.items _ c.loop-word.next c.args.words.now
      c.loop-word.word-index _ c.loop-word-test.true c.loop-word.invariant.told c.as_slice.ensures.value
      (sym c.is_new.ensures ∙ c.if-not-is_new.false) c.push.new.self.items c.behind-next.result
      c.declaration_of.result c.in_ok-declared.declared c.declaration_of.ensures c.in_ok-declared.ensures.is
      c.behind-next.ensures.is c.in_ok-push.ensures.items;
  named = rw c.in_ok-push.ensures.items (All-push (IsNewLocation c.args.text.now) c.loop-word.names.items
      (made _ c.in_ok-declared.declared) c.loop-word.invariant.named c.in_ok-check_name.ensures.named);
  begins = begins_behind c.loop-word.names.items c.push.new.self.items c.loop-word.next c.behind-next.result
      c.declaration_of.result c.in_ok-declared.declared _ c.loop-word.invariant.begins c.in_ok-declared.ensures.is
      c.behind-next.ensures.is c.in_ok-push.ensures.items;
  order = c.behind-next.ensures.order (first_before c.loop-word.next c.declaration_of.result
      c.in_ok-declared.declared c.in_ok-declared.ensures.is c.loop-word.invariant.order);
  inside = c.behind-next.ensures.inside c.in_ok-declared.ensures.small;
}

pub returns-in_err-check_name-clause-only : goal.returns-in_err-check_name-clause-only
returns-in_err-check_name-clause-only c = λ named few.
    absurd (c.in_err-check_name.ensures.only (next_named c.args.text.now c.args.words.now _ c.loop-word.names.items
    _ c.loop-word.next c.args.words.now c.loop-word.word-index _ c.loop-word-test.true c.loop-word.invariant.told
    c.as_slice.ensures.value (sym c.is_new.ensures ∙ c.if-not-is_new.false) named))

pub returns-in_err-declared-clause-only : goal.returns-in_err-declared-clause-only
returns-in_err-declared-clause-only c = λ named few.
    absurd (c.in_err-declared.ensures.only (next_fits c.args.text.now c.args.words.now _ c.loop-word.names.items
    _ c.loop-word.next c.args.words.now c.loop-word.word-index _ c.loop-word-test.true c.loop-word.invariant.told
    c.as_slice.ensures.value (sym c.is_new.ensures ∙ c.if-not-is_new.false) _ c.declaration_of.ensures
    c.loop-word.invariant.begins few))
