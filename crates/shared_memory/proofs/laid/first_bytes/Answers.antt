use Rattle.std.proofs.Common.{◌≡◌, ◌+◌, ◌<◌, ◌≤◌, List, length, get_or, slice_index, sym, subst, ap, ◌∙◌, arith}
use Rattle.elf_image.specs.Image.{ProgramSegment}
use Rattle.shared_memory.proofs.Starting.{IsLaid, laid_more, laid_whole, zeros_behind}
use Rattle.shared_memory.proofs.laid.first_bytes.Goals as goal

pub loop-segment-preserved : goal.loop-segment-preserved
loop-segment-preserved c =
    let image = c.args.image.now in
    let segment = c.segment-item.result in
    let n = c.loop-segment.segment-index in
    let all = c.segments-segment-items.ensures.value in
    let inside = subst (λ (xs : List ProgramSegment). n < length xs) all c.loop-segment-test.true in
    let at = subst (λ (xs : List ProgramSegment). get_or xs n segment ≡ segment) all (sym c.segment-item.is) in
    let more = laid_more image c.segments-segment-items.ensures.well_formed c.loop-segment.bytes.items n segment
    c.loop-segment.invariant.0 inside at in (
      subst (λ bytes. IsLaid image bytes (n + 1)) (sym c.in_ok-append_segment.ensures.items) more,
      omega (arith, c.loop-segment.invariant.1, c.append_segment.ensures.capacity),
    )

pub returns-clause-bytes : goal.returns-clause-bytes
returns-clause-bytes c =
    let image = c.args.image.now in
    let bytes = c.loop-segment.bytes.items in
    let n = c.loop-segment.segment-index in
    let all = c.segments-segment-items.ensures.value in
    let none = subst (λ (xs : List ProgramSegment). length xs ≤ n) all c.loop-segment-test.false in
    λ k. ap (λ xs. slice_index xs k) c.in_ok-resize.ensures.items
    ∙ zeros_behind bytes _ _ k (omega arith) c.loop-segment.bytes.ok.0
    ∙ laid_whole image c.segments-segment-items.ensures.well_formed bytes n k c.loop-segment.invariant.0 none
