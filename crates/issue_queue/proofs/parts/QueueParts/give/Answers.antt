use Rattle.std.proofs.Common.{◌≡◌, ◌∙◌, Option, Some, refl, sym, ap, subst}
use Rattle.std.specs.Prelude.{if◌then◌else◌, IsSome}
use Rattle.slab.specs.Slab.{get, Updates, with_value}
use Rattle.slab.proofs.SlabLemmas.{Updates-with_value}
use Rattle.issue_queue.specs.{Entry.can_issue, declared.entry.Entry.Entry}
use Rattle.issue_queue.specs.{Order.in_order, Ready.order_of}
use Rattle.issue_queue.specs.Parts.{key_of, side_of, waits_of, waits_at, with_source, ready_of}
use Rattle.issue_queue.proofs.Waking.{given_sound, given_room}
use Rattle.issue_queue.proofs.parts.QueueParts.give.Goals as goal

pub unlink-requires-clause-there : goal.unlink-requires-clause-there
unlink-requires-clause-there c =
    λ register same known.
    record {
      waits = waits_at c.args.self.now.entries;
      linked = c.requires.sound.waiting;
      register = register;
      inside = known;
      there = c.requires.waits ∙ same;
    }

pub offer-requires-clause-room : goal.offer-requires-clause-room
offer-requires-clause-room c =
    let old = c.args.self.now in
    let e = c.index.result.now in
    let was : get old.entries (key_of c.args.node) ≡ Some e =
    subst (λ k. get old.entries k ≡ Some e) c.split-key.ensures.key c.index.ensures in
    given_room old c.requires.sound (key_of c.args.node) c.args.register (side_of c.args.node) e was
    (ap (waits_of (side_of c.args.node)) (sym was) ∙ c.requires.waits)

pub returns-clause-sound : goal.returns-clause-sound
returns-clause-sound c =
    let old = c.args.self.now in
    let e = c.index.result.now in
    let key = c.split-key.result.0 in
    let side = c.split-key.result.1 in
    let node = c.args.node in
    let value = c.args.value in
    let new = with_value old.entries key (with_source side value e) in
    let was : get old.entries (key_of node) ≡ Some e =
    subst (λ k. get old.entries k ≡ Some e) c.split-key.ensures.key c.index.ensures in
    let there = subst (λ (o : Option Entry). IsSome o) (sym c.index.ensures) refl in
    let updates : Updates old.entries new (key_of node) (Some (with_source (side_of node) value e)) =
    subst (λ k. Updates old.entries new k (Some (with_source (side_of node) value e))) c.split-key.ensures.key
    (subst (λ s. Updates old.entries new key (Some (with_source s value e))) c.split-key.ensures.side
    (Updates-with_value old.entries key (with_source side value e) there)) in
    given_sound old (record { entries = new; waiting = c.unlink.new.waiting; ready = c.offer.new.ready }) c.requires.sound
    refl node c.args.register value c.requires.node c.requires.waits e was updates
    (c.unlink.ensures (waits_at old.entries) c.requires.sound.waiting c.requires.waits)
    (λ k. subst (λ n. order_of k c.offer.new.ready
    ≡ (if can_issue k (with_source (side_of node) value e)
    then in_order (ready_of n (with_source (side_of node) value e)) (order_of k old.ready) else order_of k old.ready))
    c.split-key.ensures.key
    (subst (λ s. order_of k c.offer.new.ready
    ≡ (if can_issue k (with_source s value e) then in_order (ready_of key (with_source s value e)) (order_of k old.ready)
    else order_of k old.ready)) c.split-key.ensures.side (c.offer.ensures k)))
