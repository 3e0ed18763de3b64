use Rattle.std.proofs.Common.{◌≡◌, ◌<◌, ◌≤◌, length, slice_index, slice_set, ◌∙◌, sym, ap, refl, arith}
use Rattle.std.proofs.lemmas.List.{get_or-set_same, get_or-set_other}
use Rattle.issue_queue.specs.Waiting.{nodes, places}
use Rattle.issue_queue.proofs.Following.{within, removed}
use Rattle.issue_queue.proofs.waiting.WaitingLists.remove.Goals as goal

pub bounds-self-from : goal.bounds-self-from
bounds-self-from c =
    let w = c.requires.there in
    let lists = c.args.self.now in
    within (slice_index lists.next) (slice_index lists.before) c.args.node c.from.result (slice_index lists.next c.args.node)
    c.requires.node (sym c.from.ensures) refl w.waits w.register w.linked w.inside w.there

pub returns-then-from-lt-NODES : goal.returns-then-from-lt-NODES
returns-then-from-lt-NODES c =
    λ waits register linked known there.
    let lists = c.args.self.now in
    let p = c.from.result in
    let q = slice_index lists.next c.args.node in
    let at = c.from-then-from-lt-NODES.result in
    let same : at ≡ q = c.from-then-from-lt-NODES.ensures in
    let bound : p < places =
    within (slice_index lists.next) (slice_index lists.before) c.args.node p q c.requires.node (sym c.from.ensures) refl
    waits register linked known there in
    let long : length lists.next ≡ places = omega arith in
    let longer : length lists.before ≡ nodes = omega arith in
    let low : q < nodes = omega (arith, c.if-from-lt-NODES.true, c.from-2.ensures) in
    let p_inside : p < length lists.next = omega (arith, bound, long) in
    let at_inside : at < length lists.before = omega (arith, low, longer, same) in
    removed (slice_index lists.next) (slice_index lists.before) c.args.node p q c.requires.node (sym c.from.ensures) refl
    (slice_index (slice_set lists.next p q))
    (slice_index (slice_set lists.before at (slice_index lists.before c.args.node)))
    (get_or-set_same lists.next p q 0 p_inside) (λ i other. get_or-set_other lists.next p i q 0 other)
    (λ _. ap (slice_index (slice_set lists.before at (slice_index lists.before c.args.node))) (sym same)
    ∙ get_or-set_same lists.before at (slice_index lists.before c.args.node) 0 at_inside ∙ sym c.from.ensures)
    (λ i other. get_or-set_other lists.before at i (slice_index lists.before c.args.node) 0
    (λ is. other (is ∙ same)))
    waits register linked known there

pub returns-else-from-lt-NODES : goal.returns-else-from-lt-NODES
returns-else-from-lt-NODES c =
    λ waits register linked known there.
    let lists = c.args.self.now in
    let p = c.from.result in
    let q = slice_index lists.next c.args.node in
    let bound : p < places =
    within (slice_index lists.next) (slice_index lists.before) c.args.node p q c.requires.node (sym c.from.ensures) refl
    waits register linked known there in
    let long : length lists.next ≡ places = omega arith in
    let high : nodes ≤ q = omega (arith, c.if-from-lt-NODES.false, c.from-2.ensures) in
    let p_inside : p < length lists.next = omega (arith, bound, long) in
    removed (slice_index lists.next) (slice_index lists.before) c.args.node p q c.requires.node (sym c.from.ensures) refl
    (slice_index (slice_set lists.next p q)) (slice_index lists.before)
    (get_or-set_same lists.next p q 0 p_inside) (λ i other. get_or-set_other lists.next p i q 0 other)
    (λ low. absurd (omega (arith, low, high))) (λ i other. refl) waits register linked known there
