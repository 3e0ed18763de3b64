use Rattle.std.proofs.Common.{◌≡◌, List, ap, subst, ◌∙◌, arith, length}
use Rattle.program_ways.specs.declared.own.OwnWord.{OwnWord}
use Rattle.program_ways.specs.Keeping.{byte_with, own_byte}
use Rattle.program_ways.proofs.Bytes.{set_byte, push_byte}
use Rattle.program_ways.proofs.own.keep.Goals as goal

pub returns-then-index-word : goal.returns-then-index-word
returns-then-index-word c = λ image addr.
    let own = c.loop-place.own.items in
    let new : OwnWord = record { word = c.args.word; bytes = c.args.bytes } in
    let same = ap (λ (xs : List OwnWord). length xs) c.loop-place.invariant.same in
    set_byte image own c.loop-place.place c.index.result.now new addr
    (omega (arith, c.loop-place-test.true, c.len-place-end.ensures, same))
    (subst (λ (held : OwnWord). held.word ≡ c.args.word) c.index.ensures c.if-index-word.true)
    (λ k below. c.loop-place.invariant.none k c.index.result.now below)
    ∙ ap (λ (xs : List OwnWord). byte_with new addr (own_byte image xs addr)) c.loop-place.invariant.same

pub returns : goal.returns
returns c = λ image addr.
    let own = c.loop-place.own.items in
    let new : OwnWord = record { word = c.args.word; bytes = c.args.bytes } in
    let same = ap (λ (xs : List OwnWord). length xs) c.loop-place.invariant.same in
    ap (λ (xs : List OwnWord). own_byte image xs addr) c.in_ok-push.ensures.items
    ∙ push_byte image own new new addr
    (λ k below. c.loop-place.invariant.none k new
    (omega (arith, below, c.loop-place-test.false, c.len-place-end.ensures, same)))
    ∙ ap (λ (xs : List OwnWord). byte_with new addr (own_byte image xs addr)) c.loop-place.invariant.same
