use Rattle.std.proofs.Common.{◌≡◌, ◌≢◌, ◌+◌, ◌<◌, ◌≤◌, length, slice_index, slice_set, ◌∙◌, sym, ap, refl, arith}
use Rattle.std.proofs.lemmas.List.{get_or-set_same, get_or-set_other, length-set}
use Rattle.issue_queue.specs.Waiting.{nodes, places}
use Rattle.issue_queue.proofs.Following.{pushed, first-there, none_some}
use Rattle.issue_queue.proofs.waiting.WaitingLists.push.Goals as goal

pub returns-then-from-lt-NODES : goal.returns-then-from-lt-NODES
returns-then-from-lt-NODES c =
    λ waits linked free.
    let lists = c.args.self.now in
    let node = c.args.node in
    let place = nodes + c.from-place.result in
    let first = slice_index lists.next place in
    let at = c.from-then-from-lt-NODES.result in
    let same : at ≡ first = c.from-then-from-lt-NODES.ensures in
    let is_place : place ≡ nodes + c.args.register = ap (λ r. nodes + r) c.from-place.ensures in
    let long : length lists.next ≡ places = omega arith in
    let longer : length lists.before ≡ nodes = omega arith in
    let low : first < nodes = omega (arith, c.if-from-lt-NODES.true, c.from.ensures) in
    let inside = c.requires.node in
    let known = c.requires.register in
    let nexts = slice_set (slice_set lists.next node first) place node in
    let befores = slice_set (slice_set lists.before node place) at node in
    let grown = length-set lists.next node first in
    let widened = length-set lists.before node place in
    let place_inside : place < length (slice_set lists.next node first) = omega (arith, long, is_place, known, grown) in
    let node_inside : node < length lists.next = omega (arith, long, inside) in
    let node_in : node < length lists.before = omega (arith, longer, inside) in
    let at_inside : at < length (slice_set lists.before node place) = omega (arith, longer, low, same, widened) in
    let apart : node ≢ place = λ is. omega (arith, inside, is, is_place) in
    let head =
    first-there (slice_index lists.next) (slice_index lists.before) waits c.args.register
    (linked c.args.register known) first (ap (slice_index lists.next) (sym is_place)) low in
    let far : node ≢ at = λ is. none_some c.args.register (sym free ∙ ap waits (is ∙ same) ∙ head.1) in
    pushed (slice_index lists.next) (slice_index lists.before) (slice_index nexts) (slice_index befores) place node first
    (omega (arith, is_place)) inside (get_or-set_same (slice_set lists.next node first) place node 0 place_inside)
    (get_or-set_other (slice_set lists.next node first) place node node 0 apart
    ∙ get_or-set_same lists.next node first 0 node_inside)
    (λ i not_place not_node. get_or-set_other (slice_set lists.next node first) place i node 0 not_place
    ∙ get_or-set_other lists.next node i first 0 not_node)
    (get_or-set_other (slice_set lists.before node place) at node node 0 far
    ∙ get_or-set_same lists.before node place 0 node_in)
    (λ _. ap (slice_index befores) (sym same) ∙ get_or-set_same (slice_set lists.before node place) at node 0 at_inside)
    (λ i not_node not_first. get_or-set_other (slice_set lists.before node place) at i node 0
    (λ is. not_first (is ∙ same)) ∙ get_or-set_other lists.before node i place 0 not_node)
    waits c.args.register is_place linked refl free known

pub returns-else-from-lt-NODES : goal.returns-else-from-lt-NODES
returns-else-from-lt-NODES c =
    λ waits linked free.
    let lists = c.args.self.now in
    let node = c.args.node in
    let place = nodes + c.from-place.result in
    let first = slice_index lists.next place in
    let is_place : place ≡ nodes + c.args.register = ap (λ r. nodes + r) c.from-place.ensures in
    let long : length lists.next ≡ places = omega arith in
    let longer : length lists.before ≡ nodes = omega arith in
    let high : nodes ≤ first = omega (arith, c.if-from-lt-NODES.false, c.from.ensures) in
    let inside = c.requires.node in
    let known = c.requires.register in
    let nexts = slice_set (slice_set lists.next node first) place node in
    let befores = slice_set lists.before node place in
    let grown = length-set lists.next node first in
    let place_inside : place < length (slice_set lists.next node first) = omega (arith, long, is_place, known, grown) in
    let node_inside : node < length lists.next = omega (arith, long, inside) in
    let node_in : node < length lists.before = omega (arith, longer, inside) in
    let apart : node ≢ place = λ is. omega (arith, inside, is, is_place) in
    pushed (slice_index lists.next) (slice_index lists.before) (slice_index nexts) (slice_index befores) place node first
    (omega (arith, is_place)) inside (get_or-set_same (slice_set lists.next node first) place node 0 place_inside)
    (get_or-set_other (slice_set lists.next node first) place node node 0 apart
    ∙ get_or-set_same lists.next node first 0 node_inside)
    (λ i not_place not_node. get_or-set_other (slice_set lists.next node first) place i node 0 not_place
    ∙ get_or-set_other lists.next node i first 0 not_node)
    (get_or-set_same lists.before node place 0 node_in) (λ low. absurd (omega (arith, low, high)))
    (λ i not_node not_first. get_or-set_other lists.before node i place 0 not_node)
    waits c.args.register is_place linked refl free known
